use Rattle.std.proofs.Common.{List, map, ap, subst, ◌∙◌}
use Rattle.cost_model.specs.Costs.{cost_at}
use Rattle.code_flow.specs.declared.program.Reached.{Reached}
use Rattle.code_flow.specs.Plans.{plans_of}
use Rattle.call_costs.specs.Knowing.{cost_in, HasCosts}
use Rattle.call_costs.proofs.Besides.{each_cost}
use Rattle.call_costs.proofs.Orders.{listed_costs}
use Rattle.call_costs.proofs.callees.costs.Goals as goal

pub returns-clause-costs : goal.returns-clause-costs
returns-clause-costs g c =
    let known = cost_in c.in_ok-known.known in
    let weights = cost_at c.args.model.now in
    let program = c.args.program.now in
    let has : HasCosts weights (plans_of program) known = subst (λ (p : List Reached). HasCosts weights (plans_of p) known) c.methods.ensures c.in_ok-known.ensures.costs in
    c.in_ok-list.ensures
    ∙ ap (λ (p : List Reached). map (λ (r : Reached). known r.method) p) c.methods-2.ensures
    ∙ each_cost known program
    ∙ listed_costs weights (plans_of program) known has
