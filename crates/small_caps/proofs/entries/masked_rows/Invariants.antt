use Rattle.std.proofs.Common.{◌≡◌, ◌<◌, ℕ, get_or, length}
use Rattle.lin_rows.specs.Linear.{nothing}
use Rattle.lin_rows.specs.Rows.{lins}
use Rattle.small_caps.specs.inside.Entries.{IsMasked}
use Rattle.small_caps.proofs.entries.masked_rows.Given as goal

abbrev pub invariant-loop-row : goal.invariant-loop-row
invariant-loop-row l = record {
  long : length l.made.items ≡ l.row-index;
  each : (n : ℕ) → n < l.row-index → IsMasked l.entry (get_or (lins l.rows) n nothing) (get_or (lins l.made.items) n nothing);
}
