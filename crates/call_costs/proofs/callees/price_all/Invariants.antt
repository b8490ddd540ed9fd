use Rattle.cost_model.specs.Costs.{cost_at}
use Rattle.code_flow.specs.Plans.{plans_of}
use Rattle.call_costs.specs.Knowing.{cost_in, Knows}
use Rattle.call_costs.proofs.callees.price_all.Given as goal

abbrev pub invariant-loop-k : goal.invariant-loop-k
invariant-loop-k g l = Knows (cost_at l.model) (plans_of l.methods) l.order l.k-index (cost_in l.known)
