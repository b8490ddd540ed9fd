use Rattle.common_laws.proofs.Choices.{or_none}
use Rattle.common_laws.proofs.choices_are_none.Goals as goal

pub returns : goal.returns
returns g c = λ a b h. or_none a b h
