use Rattle.graph_order.specs.inside.Parts.{AreJoinsTo}
use Rattle.graph_order.proofs.parts.joins.Given as goal

abbrev pub invariant-loop-a : goal.invariant-loop-a
invariant-loop-a l = AreJoinsTo l.g l.numbers l.a l.edges.items
