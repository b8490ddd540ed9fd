use Rattle.well_formed.proofs.Steps.{run_well_formed}
use Rattle.well_formed.proofs.laws.runs_are_well_formed.Goals as goal

pub returns : goal.returns
returns c = run_well_formed
