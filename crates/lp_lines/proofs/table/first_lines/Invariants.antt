use Rattle.std.proofs.Common.{◌≡◌, ◌++◌, drop}
use Rattle.lin_rows.specs.Rows.{lins}
use Rattle.lp_lines.specs.inside.First.{first_lines, AreNumbers}
use Rattle.lp_lines.proofs.table.first_lines.Given as goal

abbrev pub invariant-loop-row : goal.invariant-loop-row
invariant-loop-row l = record {
  lines : l.lines.items ++ first_lines l.variables (lins (drop l.row-index l.rows)) ≡ first_lines l.variables (lins l.rows);
  numbers : AreNumbers l.lines.items;
}
