use Rattle.common_laws.proofs.Positions.{position_at}
use Rattle.common_laws.proofs.first_places.Goals as goal

pub returns : goal.returns
returns g c = λ p xs i d lt here before. position_at p xs i d lt here before
