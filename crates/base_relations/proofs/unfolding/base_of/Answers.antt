use Rattle.std.proofs.Common.{◌↔◌, ◌<◌, length, subst}
use Rattle.graph_core.specs.Graphs.{HasEdge}
use Rattle.base_relations.specs.Direct.{CallsOf}
use Rattle.base_relations.proofs.unfolding.base_of.Goals as goal

pub base_node-requires-clause-edges : goal.base_node-requires-clause-edges
base_node-requires-clause-edges c = λ b. subst (λ rules. HasEdge c.args.g.now c.args.node b ↔ (CallsOf rules b × (b < length c.args.r.now))) c.in-Some.is (c.requires.edges b)
