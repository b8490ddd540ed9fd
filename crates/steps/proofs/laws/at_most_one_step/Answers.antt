use Rattle.steps.proofs.Steps.{step_spends}
use Rattle.steps.proofs.laws.at_most_one_step.Goals as goal

pub returns-clause-grows : goal.returns-clause-grows
returns-clause-grows c = step_spends
