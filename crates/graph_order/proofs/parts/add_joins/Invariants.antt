use Rattle.graph_order.proofs.Joins.{AreJoinsAt}
use Rattle.graph_order.proofs.parts.add_joins.Given as goal

abbrev pub invariant-loop-b : goal.invariant-loop-b
invariant-loop-b l = AreJoinsAt l.g l.numbers l.b-items l.a l.b-index l.edges.items
