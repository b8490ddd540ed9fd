use Rattle.kind_effects.proofs.Orders.{makes_facts}
use Rattle.kind_effects.proofs.laws.effects_make_facts.Goals as goal

pub returns : goal.returns
returns c = makes_facts
