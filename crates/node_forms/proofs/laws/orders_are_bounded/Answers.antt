use Rattle.node_forms.proofs.Ordered.{orders_are_bounded}
use Rattle.node_forms.proofs.laws.orders_are_bounded.Goals as goal

pub returns : goal.returns
returns c = orders_are_bounded
