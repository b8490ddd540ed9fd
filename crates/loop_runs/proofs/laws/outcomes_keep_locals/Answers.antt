use Rattle.loop_runs.proofs.Keeping.{outcome_keeps}
use Rattle.loop_runs.proofs.laws.outcomes_keep_locals.Goals as goal

pub returns : goal.returns
returns c = outcome_keeps
