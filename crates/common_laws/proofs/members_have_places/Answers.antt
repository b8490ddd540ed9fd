use Rattle.common_laws.proofs.Members.{contains_at, place_of}
use Rattle.common_laws.proofs.members_have_places.Goals as goal

pub returns : goal.returns
returns g c = λ xs x. (λ h. (h.0, place_of xs x h), λ at. contains_at xs at.0 x at.1)
