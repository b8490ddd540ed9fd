use Rattle.std.proofs.Common.{below_more}
use Rattle.graph_core.proofs.Marks.{lies_false}
use Rattle.plain_graphs.proofs.Calls.{not_next}
use Rattle.plain_graphs.proofs.ordering.is_next.Goals as goal

pub returns-then-is_ready : goal.returns-then-is_ready
returns-then-is_ready c =
    (λ t. absurd (cc), λ h. absurd (not_next c.args.g.now c.args.chosen.now c.args.before.now c.args.v c.loop-w.w c.loop-w-test.true (c.is_ready.ensures.0 c.if-is_ready.true) h))

pub loop-w-preserved : goal.loop-w-preserved
loop-w-preserved c =
    below_more _ _ c.loop-w.invariant (lies_false _ c.if-is_ready.false c.is_ready.ensures)
