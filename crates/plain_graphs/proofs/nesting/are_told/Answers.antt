use Rattle.std.proofs.Common.{◌≤◌, length, refl, below_more, arith}
use Rattle.plain_graphs.proofs.nesting.are_told.Goals as goal

pub loop-x-preserved : goal.loop-x-preserved
loop-x-preserved c = below_more _ _ c.loop-x.invariant (c.is_told.ensures.0 c.if-not-is_told.false)

pub returns : goal.returns
returns c =
    let all : length c.args.p.now.graph.now ≤ c.loop-x.x = omega (arith, c.nodes-x-end.ensures.value, c.loop-x-test.false) in
    (λ t y l. c.loop-x.invariant y (omega arith), λ h. refl)
