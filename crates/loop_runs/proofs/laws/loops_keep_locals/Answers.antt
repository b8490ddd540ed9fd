use Rattle.loop_runs.proofs.Keeping.{loops_keep}
use Rattle.loop_runs.proofs.laws.loops_keep_locals.Goals as goal

pub returns : goal.returns
returns c = loops_keep
