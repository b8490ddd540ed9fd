use Rattle.common_laws.proofs.Tests.{any_in, any_has}
use Rattle.common_laws.proofs.tests_pass_at_members.Goals as goal

pub returns : goal.returns
returns g c = λ p xs. (λ h. any_has p xs h, λ at. any_in p xs at.0 at.1 at.2)
