use Rattle.std.proofs.Common.{◌∙◌, refl, take, arith, subst}
use Rattle.base_relations.specs.inside.Plans.{Adds, IsCallOf, CallsIn}
use Rattle.base_relations.proofs.Calling.{adds_none, adds_more, calls_in_more, calls_in_all}
use Rattle.base_relations.proofs.plan.add_way_calls.Goals as goal

pub loop-item-preserved : goal.loop-item-preserved
loop-item-preserved c = record {
  nodes = c.in_ok-add_call.ensures.nodes ∙ c.loop-item.invariant.nodes;
  edges = adds_more c.args.g.now c.loop-item.g c.add_call.new.g c.args.a (CallsIn (take c.loop-item.item-index c.args.way.now)) (IsCallOf c.item-item.result) (CallsIn _) c.loop-item.invariant.nodes (calls_in_more c.args.way.now c.loop-item.item-index c.item-item.result (omega arith) c.item-item.is) c.loop-item.invariant.edges c.in_ok-add_call.ensures.edges;
}

pub returns-clause-edges : goal.returns-clause-edges
returns-clause-edges c = subst (λ way. Adds c.args.g.now c.loop-item.g c.args.a (CallsIn way)) (calls_in_all c.args.way.now 0 c.loop-item.item-index (omega arith)) c.loop-item.invariant.edges
