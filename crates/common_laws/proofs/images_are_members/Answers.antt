use Rattle.std.proofs.Common.{subst, map, Contains}
use Rattle.common_laws.proofs.Members.{in_map, from_map}
use Rattle.common_laws.proofs.images_are_members.Goals as goal

pub returns : goal.returns
returns g c = λ f xs y. (λ h. from_map f xs y h, λ of. subst (λ v. Contains (map f xs) v) of.2 (in_map f xs of.0 of.1))
