use Rattle.std.proofs.Common.{◌∙◌, ℕ, List, ap, arith, length, subst, slice_index_or, None}
use Rattle.std.proofs.lemmas.List.{length-replicate}
use Rattle.graph_core.proofs.Rows.{no_edges}
use Rattle.base_relations.specs.Direct.{CallsOf}
use Rattle.base_relations.specs.inside.Plans.{Adds}
use Rattle.base_relations.proofs.Calling.{edges_none, edges_more, base_graph_is, row_at}
use Rattle.base_relations.proofs.unfolding.base_graph.Goals as goal

pub loop-a-init : goal.loop-a-init
loop-a-init c = record {
  nodes = ap (λ (g : List (List ℕ)). length g) c.in_ok-g.ensures ∙ length-replicate _ _;
  edges = edges_none (λ x y. CallsOf (slice_index_or c.args.bases.now x None) y) _ _ (no_edges _ _ c.in_ok-g.ensures);
}

pub loop-a-preserved : goal.loop-a-preserved
loop-a-preserved c = record {
  nodes = c.in_ok-add_base_calls.ensures.nodes ∙ c.loop-a.invariant.nodes;
  edges = edges_more (λ x y. CallsOf (slice_index_or c.args.bases.now x None) y) (length c.args.bases.now) c.loop-a.g c.add_base_calls.new.g c.loop-a.a c.loop-a.invariant.nodes c.loop-a.invariant.edges (subst (λ rules. Adds c.loop-a.g c.add_base_calls.new.g c.loop-a.a (CallsOf rules)) (row_at c.args.bases.now c.loop-a.a c.index-bases-a.result None (omega arith) c.index-bases-a.is) c.in_ok-add_base_calls.ensures.edges);
}

pub returns : goal.returns
returns c = base_graph_is c.args.bases.now c.loop-a.g c.loop-a.a c.loop-a.invariant.nodes (omega arith) c.loop-a.invariant.edges
