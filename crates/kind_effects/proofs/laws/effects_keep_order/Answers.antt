use Rattle.kind_effects.proofs.Orders.{keeps_order}
use Rattle.kind_effects.proofs.laws.effects_keep_order.Goals as goal

pub returns : goal.returns
returns c = keeps_order
