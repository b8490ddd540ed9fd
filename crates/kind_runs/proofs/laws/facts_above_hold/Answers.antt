use Rattle.kind_runs.proofs.Frames.{facts_above}
use Rattle.kind_runs.proofs.laws.facts_above_hold.Goals as goal

pub returns : goal.returns
returns c = facts_above
