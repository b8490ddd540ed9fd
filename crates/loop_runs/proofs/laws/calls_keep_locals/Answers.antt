use Rattle.loop_runs.proofs.Keeping.{call_keeps}
use Rattle.loop_runs.proofs.laws.calls_keep_locals.Goals as goal

pub returns : goal.returns
returns c = call_keeps
