use Rattle.std.proofs.Common.{◌<◌, ℕ, pos}
use Rattle.std.specs.Prelude.{◌≢◌, Contains}
use Rattle.lin_rows.specs.Linear.{coefficient_of}
use Rattle.small_caps.proofs.entries.is_over.Given as goal

abbrev pub invariant-loop-v : goal.invariant-loop-v
invariant-loop-v l = (k : ℕ) → k < l.v → coefficient_of l.l k ≢ pos 0 → Contains l.entry k
