use Rattle.q128.proofs.Order.{order-equal}
use Rattle.q128.proofs.q.Q.cmp.Goals as goal

pub returns-clause-equal : goal.returns-clause-equal
returns-clause-equal c =
    let known = c.order_with.ensures in
    order-equal c.args.self.now c.args.other.now c.order_with.result known.self_lowest known.other_lowest known.order
