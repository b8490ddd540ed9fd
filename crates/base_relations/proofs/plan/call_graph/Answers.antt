use Rattle.std.proofs.Common.{◌∙◌, ℕ, List, [], ap, arith, length, subst}
use Rattle.std.proofs.lemmas.List.{length-replicate}
use Rattle.graph_core.proofs.Rows.{no_edges}
use Rattle.base_relations.specs.Unfolding.{Calls, ways_at}
use Rattle.base_relations.specs.inside.Plans.{Adds}
use Rattle.base_relations.proofs.Calling.{edges_none, edges_more, call_graph_is, row_at}
use Rattle.base_relations.proofs.plan.call_graph.Goals as goal

pub loop-a-init : goal.loop-a-init
loop-a-init c = record {
  nodes = ap (λ (g : List (List ℕ)). length g) c.in_ok-g.ensures ∙ length-replicate _ _;
  edges = edges_none (λ x y. Calls (ways_at c.args.ways.now x) y) _ _ (no_edges _ _ c.in_ok-g.ensures);
}

pub loop-a-preserved : goal.loop-a-preserved
loop-a-preserved c = record {
  nodes = c.in_ok-add_calls.ensures.nodes ∙ c.loop-a.invariant.nodes;
  edges = edges_more (λ x y. Calls (ways_at c.args.ways.now x) y) (length c.args.ways.now) c.loop-a.g c.add_calls.new.g c.loop-a.a c.loop-a.invariant.nodes c.loop-a.invariant.edges (subst (λ ways. Adds c.loop-a.g c.add_calls.new.g c.loop-a.a (Calls ways)) (c.as_slice.ensures ∙ row_at c.args.ways.now c.loop-a.a c.index-ways-a.result [] (omega arith) c.index-ways-a.is) c.in_ok-add_calls.ensures.edges);
}

pub returns : goal.returns
returns c = call_graph_is c.args.ways.now c.loop-a.g c.loop-a.a c.loop-a.invariant.nodes (omega arith) c.requires.held c.loop-a.invariant.edges
