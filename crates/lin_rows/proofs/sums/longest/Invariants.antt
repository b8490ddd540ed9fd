use Rattle.std.proofs.Common.{◌≡◌, max, drop}
use Rattle.lin_rows.specs.Rows.{lins, longest_of}
use Rattle.lin_rows.proofs.sums.longest.Given as goal

abbrev pub invariant-loop-row : goal.invariant-loop-row
invariant-loop-row l = max l.longest (longest_of (lins (drop l.row-index l.rows))) ≡ longest_of (lins l.rows)
