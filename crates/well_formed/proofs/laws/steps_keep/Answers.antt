use Rattle.well_formed.proofs.Steps.{step_kept}
use Rattle.well_formed.proofs.laws.steps_keep.Goals as goal

pub returns : goal.returns
returns c = step_kept
