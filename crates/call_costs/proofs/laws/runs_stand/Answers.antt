use Rattle.call_costs.proofs.Entering.{run_stands}
use Rattle.call_costs.proofs.laws.runs_stand.Goals as goal

pub returns : goal.returns
returns c = run_stands
