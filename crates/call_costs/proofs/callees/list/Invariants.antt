use Rattle.std.proofs.Common.{◌≡◌, map, take}
use Rattle.code_flow.specs.declared.program.Reached.{Reached}
use Rattle.call_costs.specs.Knowing.{cost_in}
use Rattle.call_costs.proofs.callees.list.Given as goal

abbrev pub invariant-loop-reached : goal.invariant-loop-reached
invariant-loop-reached l = l.costs.items ≡ map (λ (r : Reached). cost_in l.known r.method) (take l.reached-index l.methods)
