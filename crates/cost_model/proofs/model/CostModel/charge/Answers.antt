use Rattle.std.proofs.Common.{◌≡◌, ◌≤◌, arith}
use Rattle.cost_model.specs.Costs.{cost_at}
use Rattle.cost_model.proofs.model.CostModel.charge.Goals as goal

pub returns-clause-value : goal.returns-clause-value
returns-clause-value g c =
    let answered = c.self.invariant.1 c.number.result c.number.ensures.bound in
    let cost : c.answer.result ≡ cost_at c.self.inside.table c.number.result = answered.1 c.answer.result c.answer.ensures in
    let view : c.self.inside.table ≡ c.args.self.now = c.self.view_is in
    rw (← view, ← c.number.ensures.value) cost

pub returns-clause-bound : goal.returns-clause-bound
returns-clause-bound g c =
    let answered = c.self.invariant.1 c.number.result c.number.ensures.bound in
    let cost : c.answer.result ≡ cost_at c.self.inside.table c.number.result = answered.1 c.answer.result c.answer.ensures in
    let small : cost_at c.self.inside.table c.number.result ≤ 1000000 = c.self.invariant.0.small c.number.result c.number.ensures.bound in
    omega (arith, cost, small)
