use Rattle.run_places.proofs.Standing.{steps_stand}
use Rattle.run_places.proofs.laws.steps_stand.Goals as goal

pub returns : goal.returns
returns c = steps_stand
