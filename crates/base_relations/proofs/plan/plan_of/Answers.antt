use Rattle.std.proofs.Common.{◌≡◌, ◌<◌, ◌^◌, ◌∙◌, ap, arith, length, List}
use Rattle.std.proofs.lemmas.List.{length-map}
use Rattle.rule_terms.specs.declared.item.Item.{Item}
use Rattle.relations.specs.declared.node.Node.{Node}
use Rattle.relations.specs.Relation.{ways_of}
use Rattle.base_relations.specs.Unfolding.{node_ways}
use Rattle.base_relations.proofs.Calling.{ways_held}
use Rattle.base_relations.proofs.Assembling.{plans_by}
use Rattle.base_relations.proofs.plan.plan_of.Goals as goal

pub call_graph-requires-clause-few : goal.call_graph-requires-clause-few
call_graph-requires-clause-few c =
    let same = ap (λ (ws : List (List (List Item))). length ws) (c.as_slice.ensures ∙ c.in_ok-ways.ensures) in
    let count = length-map c.args.r.now (λ (node : Node). ways_of node.rules) in
    let nodes = c.nodes-nodes.ensures.count in
    let fits = c.nodes-nodes.type_inv in
    omega arith

pub call_graph-requires-clause-held : goal.call_graph-requires-clause-held
call_graph-requires-clause-held c = ways_held c.args.r.now c.as_slice.result.now (c.as_slice.ensures ∙ c.in_ok-ways.ensures) c.nodes-nodes.ensures.scoped

pub returns-in-Ok : goal.returns-in-Ok
returns-in-Ok c =
    plans_by c.args.r.now (record { ways = c.in_ok-ways.ways; covers = c.in-Ok.covers }) c.as_slice.result.now c.in_ok-g.g c.as_slice.ensures c.in_ok-ways.ensures c.nodes-nodes.ensures.scoped c.in_ok-g.ensures c.in-Ok.ensures.covers c.in-Ok.ensures.ranks
