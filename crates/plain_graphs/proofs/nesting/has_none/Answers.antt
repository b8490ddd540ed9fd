use Rattle.std.proofs.Common.{◌≤◌, length, refl, below_more, arith}
use Rattle.graph_core.proofs.Marks.{lies_false}
use Rattle.plain_graphs.proofs.Nested.{begins_below}
use Rattle.plain_graphs.proofs.nesting.has_none.Goals as goal

pub returns-then-not-is_alone : goal.returns-then-not-is_alone
returns-then-not-is_alone c =
    (λ t. absurd (cc), λ h. absurd (lies_false _ c.if-not-is_alone.true c.is_alone.ensures (h c.loop-h.h)))

pub loop-h-preserved : goal.loop-h-preserved
loop-h-preserved c = below_more _ _ c.loop-h.invariant (c.is_alone.ensures.0 c.if-not-is_alone.false)

pub returns : goal.returns
returns c =
    let all : length c.args.p.now.graph.now ≤ c.loop-h.h = omega (arith, c.nodes-h-end.ensures.value, c.loop-h-test.false) in
    (λ t j w. let l = begins_below c.args.p.now.graph.now c.nodes-h-end.ensures.ends c.args.p.now.root j w.0 in c.loop-h.invariant j (omega arith) w, λ h. refl)
