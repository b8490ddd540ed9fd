use Rattle.program_places.proofs.Programs.{runs_stand_in}
use Rattle.program_places.proofs.laws.program_runs_stand.Goals as goal

pub returns : goal.returns
returns c = runs_stand_in
