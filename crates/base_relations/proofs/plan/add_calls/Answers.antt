use Rattle.std.proofs.Common.{◌∙◌, take, arith, subst}
use Rattle.base_relations.specs.Unfolding.{Calls}
use Rattle.base_relations.specs.inside.Plans.{Adds, CallsIn}
use Rattle.base_relations.proofs.Calling.{adds_more, calls_more, ways_all}
use Rattle.base_relations.proofs.plan.add_calls.Goals as goal

pub loop-way-preserved : goal.loop-way-preserved
loop-way-preserved c = record {
  nodes = c.in_ok-add_way_calls.ensures.nodes ∙ c.loop-way.invariant.nodes;
  edges = adds_more c.args.g.now c.loop-way.g c.add_way_calls.new.g c.args.a (Calls (take c.loop-way.way-index c.args.ways.now)) (CallsIn c.way-item.result) (Calls _) c.loop-way.invariant.nodes (calls_more c.args.ways.now c.loop-way.way-index c.way-item.result (omega arith) c.way-item.is) c.loop-way.invariant.edges (subst (λ way. Adds c.loop-way.g c.add_way_calls.new.g c.args.a (CallsIn way)) c.as_slice.ensures c.in_ok-add_way_calls.ensures.edges);
}

pub returns-clause-edges : goal.returns-clause-edges
returns-clause-edges c = subst (λ ways. Adds c.args.g.now c.loop-way.g c.args.a (Calls ways)) (ways_all c.args.ways.now c.loop-way.way-index (omega arith)) c.loop-way.invariant.edges
