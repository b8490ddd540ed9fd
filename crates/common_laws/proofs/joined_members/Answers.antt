use Rattle.common_laws.proofs.Members.{in_flat, from_flat}
use Rattle.common_laws.proofs.joined_members.Goals as goal

pub returns : goal.returns
returns g c = λ f xs y. (λ h. from_flat f xs y h, λ of. in_flat f xs of.0 y of.1 of.2)
