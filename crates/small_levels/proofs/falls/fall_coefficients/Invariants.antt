use Rattle.std.specs.Prelude.{◌≡◌, ℕ, ◌<◌, pos, length}
use Rattle.std.proofs.Common.{get_or}
use Rattle.lin_rows.specs.Linear.{coefficient_of}
use Rattle.lin_rows.specs.Transitions.{drop_of}
use Rattle.small_levels.proofs.falls.fall_coefficients.Given as goal

abbrev pub invariant-loop-v : goal.invariant-loop-v
invariant-loop-v l = record {
  count : length l.all.items ≡ l.v;
  each : (i : ℕ) → i < l.v → get_or l.all.items i (pos 0) ≡ coefficient_of (drop_of l.f l.next (pos 0)) i;
}
