use Rattle.std.proofs.Common.{◌≤◌, length, arith}
use Rattle.plain_graphs.proofs.Nested.{begins_below}
use Rattle.plain_graphs.proofs.nesting.is_nearest_at.Goals as goal

pub returns-then-h-nodes : goal.returns-then-h-nodes
returns-then-h-nodes c =
    let past : length c.args.p.now.graph.now ≤ c.args.h = omega (arith, c.nodes.ensures.value, c.if-h-nodes.true) in
    (λ t. absurd (cc), λ near. let l = begins_below c.args.p.now.graph.now c.nodes.ensures.ends c.args.p.now.root c.args.h near.0.0 in absurd (omega arith))

pub returns : goal.returns
returns c =
    (λ t. (c.holds.ensures.0 c.if-not-holds.false, c.if-h-e.false, c.is_in_others.ensures.0 t), λ near. c.is_in_others.ensures.1 near.2)
