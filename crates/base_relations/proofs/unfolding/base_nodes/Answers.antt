use Rattle.std.proofs.Common.{◌≡◌, ◌∙◌, ◌↔◌, ◌<◌, length, sym, subst, slice_index_or, None, arith}
use Rattle.graph_core.specs.Graphs.{HasEdge}
use Rattle.base_relations.specs.Direct.{CallsOf}
use Rattle.base_relations.proofs.unfolding.base_nodes.Goals as goal

pub base_of-requires-clause-edges : goal.base_of-requires-clause-edges
base_of-requires-clause-edges c =
    let is : c.take_rules-rules.result ≡ slice_index_or c.args.bases.items c.loop-node.node None = c.take_rules-rules.ensures.taken ∙ c.loop-node.invariant.rest c.loop-node.node (omega arith) in
    λ b. subst (λ n. HasEdge c.args.g.now c.loop-node.node b ↔ (CallsOf c.take_rules-rules.result b × (b < n))) c.requires.count
    (subst (λ o. HasEdge c.args.g.now c.loop-node.node b ↔ (CallsOf o b × (b < length c.args.bases.items))) (sym is) (c.requires.graph.edges c.loop-node.node b))
