use Rattle.std.proofs.Common.{◌≡◌, ◌++◌, map, take}
use Rattle.lin_rows.specs.Rows.{lins}
use Rattle.rankings.specs.Templates.{shifted}
use Rattle.node_certificates.proofs.visits.add_shifted.Given as goal

abbrev pub invariant-loop-row : goal.invariant-loop-row
invariant-loop-row l = lins l.all.items ≡ lins l.fn.all.items ++ map (shifted l.sizes) (lins (take l.row-index l.rows))
