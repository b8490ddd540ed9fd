use Rattle.call_costs.proofs.Bounding.{runs_bounded}
use Rattle.call_costs.proofs.laws.costs_bound_runs.Goals as goal

pub returns : goal.returns
returns c = runs_bounded
