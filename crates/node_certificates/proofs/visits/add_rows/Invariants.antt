use Rattle.std.proofs.Common.{◌≡◌, ◌++◌, take}
use Rattle.lin_rows.specs.Rows.{lins}
use Rattle.node_certificates.proofs.visits.add_rows.Given as goal

abbrev pub invariant-loop-row : goal.invariant-loop-row
invariant-loop-row l = lins l.all.items ≡ lins l.fn.all.items ++ lins (take l.row-index l.rows)
