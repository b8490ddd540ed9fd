use Rattle.std.proofs.Common.{◌+◌, sym, subst}
use Rattle.code_flow.specs.CalleeOrder.{AreBelow}
use Rattle.code_flow.proofs.Orders.{below_none, below_more}
use Rattle.code_flow.proofs.ordering.numbers_below.Goals as goal

pub loop-k-init : goal.loop-k-init
loop-k-init c = below_none c.new-nodes.result.items c.new-nodes.ensures.items

pub loop-k-preserved : goal.loop-k-preserved
loop-k-preserved c =
    subst (λ l. AreBelow (c.loop-k.k + 1) l) (sym c.in_ok-push.ensures.items) (below_more c.loop-k.k c.loop-k.nodes.items c.loop-k.invariant)
