use Rattle.std.proofs.Common.{◌≡◌, ◌<◌, ℕ, pos, get_or, length}
use Rattle.lin_rows.specs.Linear.{coefficient_of}
use Rattle.small_caps.specs.inside.Entries.{IsMaskedAt}
use Rattle.small_caps.proofs.entries.masked.Given as goal

abbrev pub invariant-loop-v : goal.invariant-loop-v
invariant-loop-v l = record {
  long : length l.list.items ≡ l.v;
  each : (i : ℕ) → i < l.v → IsMaskedAt l.entry i (coefficient_of l.l i) (get_or l.list.items i (pos 0));
}
