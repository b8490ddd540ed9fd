use Rattle.std.proofs.Common.{refl, below_more, arith}
use Rattle.plain_graphs.proofs.ordering.are_nexts.Goals as goal

pub loop-i-preserved : goal.loop-i-preserved
loop-i-preserved c = below_more _ _ c.loop-i.invariant (c.is_next.ensures.0 c.if-not-is_next.false)

pub returns : goal.returns
returns c = let e = c.loop-i-test.false in (λ t i l. c.loop-i.invariant i (omega arith), λ h. refl)
