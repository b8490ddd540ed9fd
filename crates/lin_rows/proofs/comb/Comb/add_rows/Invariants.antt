use Rattle.std.proofs.Common.{◌≡◌, drop, length}
use Rattle.lin_rows.specs.Combining.{rows_added}
use Rattle.lin_rows.specs.Rows.{lins}
use Rattle.lin_rows.proofs.comb.Comb.add_rows.Given as goal

abbrev pub invariant-loop-i : goal.invariant-loop-i
invariant-loop-i l = record {
  left : rows_added (lins l.rows) l.self (drop l.i l.m) ≡ rows_added (lins l.rows) l.fn.self l.m;
  same : length l.self.coefficients ≡ length l.fn.self.coefficients;
}
