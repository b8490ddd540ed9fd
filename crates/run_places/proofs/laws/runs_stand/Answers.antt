use Rattle.run_places.proofs.Standing.{run_stands}
use Rattle.run_places.proofs.laws.runs_stand.Goals as goal

pub returns : goal.returns
returns c = run_stands
