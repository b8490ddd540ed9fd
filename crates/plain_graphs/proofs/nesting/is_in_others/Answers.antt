use Rattle.std.proofs.Common.{◌≤◌, length, refl, below_more, arith}
use Rattle.graph_core.proofs.Marks.{lies_false}
use Rattle.plain_graphs.proofs.Nested.{begins_below}
use Rattle.plain_graphs.proofs.nesting.is_in_others.Goals as goal

pub returns-then-not-is_in_other : goal.returns-then-not-is_in_other
returns-then-not-is_in_other c =
    (λ t. absurd (cc), λ h. absurd (lies_false _ c.if-not-is_in_other.true c.is_in_other.ensures (h c.loop-k.k)))

pub loop-k-preserved : goal.loop-k-preserved
loop-k-preserved c = below_more _ _ c.loop-k.invariant (c.is_in_other.ensures.0 c.if-not-is_in_other.false)

pub returns : goal.returns
returns c =
    let all : length c.args.p.now.graph.now ≤ c.loop-k.k = omega (arith, c.nodes-k-end.ensures.value, c.loop-k-test.false) in
    (λ t j w o. let l = begins_below c.args.p.now.graph.now c.nodes-k-end.ensures.ends c.args.p.now.root j w.0 in c.loop-k.invariant j (omega arith) w o, λ h. refl)
