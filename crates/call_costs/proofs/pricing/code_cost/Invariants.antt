use Rattle.cost_model.specs.Costs.{cost_at}
use Rattle.code_flow.specs.Plans.{beside}
use Rattle.call_costs.specs.Knowing.{cost_in}
use Rattle.call_costs.proofs.Sums.{IsSoFar}
use Rattle.call_costs.proofs.pricing.code_cost.Given as goal

abbrev pub invariant-loop-k : goal.invariant-loop-k
invariant-loop-k g l = IsSoFar (cost_at l.model) (cost_in l.known) (beside l.instructions l.targets) l.k l.total
