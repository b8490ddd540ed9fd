use Rattle.std.proofs.Common.{arith}
use Rattle.graph_loops.proofs.Aheads.{IsAhead-all}
use Rattle.graph_loops.proofs.ahead.ahead_of.Goals as goal

pub returns : goal.returns
returns c =
    IsAhead-all _ _ c.loop-a.a _ c.loop-a.invariant.nodes (omega (arith, c.nodes-a-end.ensures.value, c.loop-a-test.false)) c.loop-a.invariant.ahead
