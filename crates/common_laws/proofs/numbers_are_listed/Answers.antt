use Rattle.common_laws.proofs.Numbers.{contains_listed, listed_contains}
use Rattle.common_laws.proofs.numbers_are_listed.Goals as goal

pub returns : goal.returns
returns c = λ d xs. (λ h. listed_contains d xs h, λ h. contains_listed d xs h)
