use Rattle.kind_runs.proofs.Frames.{fact_stays}
use Rattle.kind_runs.proofs.laws.kinds_stay.Goals as goal

pub returns : goal.returns
returns c = fact_stays
