use Rattle.std.proofs.Common.{◌≤◌, length, refl, below_more, arith}
use Rattle.graph_core.proofs.Marks.{lies_false}
use Rattle.plain_graphs.proofs.Listings.{in_loop_within}
use Rattle.plain_graphs.proofs.nesting.lies_within.Goals as goal

pub returns-then-not-is_also_inside : goal.returns-then-not-is_also_inside
returns-then-not-is_also_inside c =
    (λ t. absurd (cc), λ h. absurd (lies_false _ c.if-not-is_also_inside.true c.is_also_inside.ensures (h c.loop-x.x)))

pub loop-x-preserved : goal.loop-x-preserved
loop-x-preserved c = below_more _ _ c.loop-x.invariant (c.is_also_inside.ensures.0 c.if-not-is_also_inside.false)

pub returns : goal.returns
returns c =
    let all : length c.args.p.now.graph.now ≤ c.loop-x.x = omega (arith, c.nodes-x-end.ensures.value, c.loop-x-test.false) in
    (λ t y i. let l = in_loop_within c.args.p.now.graph.now c.nodes-x-end.ensures.ends c.args.p.now.root c.args.h y c.requires.h c.requires.plain.within i in c.loop-x.invariant y (omega arith) i, λ h. refl)
