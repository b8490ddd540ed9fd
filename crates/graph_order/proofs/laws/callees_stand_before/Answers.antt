use Rattle.graph_order.proofs.Orders.{order_falls}
use Rattle.graph_order.proofs.laws.callees_stand_before.Goals as goal

pub returns : goal.returns
returns c = λ g chosen order h i j l m r. order_falls g chosen order h i j l m r
