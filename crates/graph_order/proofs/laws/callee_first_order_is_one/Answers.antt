use Rattle.graph_order.proofs.Orders.{order_is_one}
use Rattle.graph_order.proofs.laws.callee_first_order_is_one.Goals as goal

pub returns : goal.returns
returns c = λ g chosen xs ys a b. order_is_one g chosen xs ys a b
