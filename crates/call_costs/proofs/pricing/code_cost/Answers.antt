use Rattle.std.proofs.Common.{arith, ◌∙◌}
use Rattle.cost_model.specs.Costs.{cost_at}
use Rattle.code_flow.specs.Plans.{planned_with, beside}
use Rattle.call_costs.specs.Knowing.{cost_in}
use Rattle.call_costs.proofs.Besides.{beside_at, beside_within, beside_past}
use Rattle.call_costs.proofs.Sums.{so_far_start, so_far_next, so_far_end, so_far_all, so_far_first, so_far_sum}
use Rattle.call_costs.proofs.pricing.code_cost.Goals as goal

pub loop-k-init : goal.loop-k-init
loop-k-init g c = so_far_start (cost_at c.args.model.now) (cost_in c.args.known.now) (beside c.args.instructions.now c.args.targets.now)

pub returns-in_err-cost : goal.returns-in_err-cost
returns-in_err-cost g c =
    c.from_residual.ensures
    ∙ so_far_first (cost_at c.args.model.now) (cost_in c.args.known.now) (beside c.args.instructions.now c.args.targets.now) c.loop-k.k (planned_with c.index-instructions-k.result c.as_slice.result.now) (planned_with c.index-instructions-k.result c.as_slice.result.now) c.loop-k.total
    (beside_within c.args.instructions.now c.args.targets.now c.loop-k.k c.loop-k-test.true) (beside_at c.args.instructions.now c.args.targets.now c.loop-k.k c.index-instructions-k.result c.index-targets-k.result c.as_slice.result.now c.loop-k-test.true (omega arith) c.index-instructions-k.is c.index-targets-k.is c.as_slice.ensures) c.in_err-cost.ensures c.loop-k.invariant

pub returns-in_err-total : goal.returns-in_err-total
returns-in_err-total g c =
    c.from_residual-in_err-total.ensures
    ∙ so_far_sum (cost_at c.args.model.now) (cost_in c.args.known.now) (beside c.args.instructions.now c.args.targets.now) c.loop-k.k (planned_with c.index-instructions-k.result c.as_slice.result.now) (planned_with c.index-instructions-k.result c.as_slice.result.now) c.loop-k.total c.in_ok-cost.cost
    (beside_within c.args.instructions.now c.args.targets.now c.loop-k.k c.loop-k-test.true) (beside_at c.args.instructions.now c.args.targets.now c.loop-k.k c.index-instructions-k.result c.index-targets-k.result c.as_slice.result.now c.loop-k-test.true (omega arith) c.index-instructions-k.is c.index-targets-k.is c.as_slice.ensures) c.in_ok-cost.ensures c.in_err-total.ensures c.loop-k.invariant

pub returns-then-ends : goal.returns-then-ends
returns-then-ends g c =
    so_far_end (cost_at c.args.model.now) (cost_in c.args.known.now) (beside c.args.instructions.now c.args.targets.now) c.loop-k.k (planned_with c.index-instructions-k.result c.as_slice.result.now) (planned_with c.index-instructions-k.result c.as_slice.result.now) c.loop-k.total c.in_ok-cost.cost c.in_ok-total.total
    (beside_within c.args.instructions.now c.args.targets.now c.loop-k.k c.loop-k-test.true) (beside_at c.args.instructions.now c.args.targets.now c.loop-k.k c.index-instructions-k.result c.index-targets-k.result c.as_slice.result.now c.loop-k-test.true (omega arith) c.index-instructions-k.is c.index-targets-k.is c.as_slice.ensures) c.in_ok-cost.ensures c.in_ok-total.ensures c.if-ends.ensures c.loop-k.invariant

pub loop-k-preserved : goal.loop-k-preserved
loop-k-preserved g c =
    so_far_next (cost_at c.args.model.now) (cost_in c.args.known.now) (beside c.args.instructions.now c.args.targets.now) c.loop-k.k (planned_with c.index-instructions-k.result c.as_slice.result.now) (planned_with c.index-instructions-k.result c.as_slice.result.now) c.loop-k.total c.in_ok-cost.cost c.in_ok-total.total
    (beside_within c.args.instructions.now c.args.targets.now c.loop-k.k c.loop-k-test.true) (beside_at c.args.instructions.now c.args.targets.now c.loop-k.k c.index-instructions-k.result c.index-targets-k.result c.as_slice.result.now c.loop-k-test.true (omega arith) c.index-instructions-k.is c.index-targets-k.is c.as_slice.ensures) c.in_ok-cost.ensures c.in_ok-total.ensures c.if-ends.ensures c.loop-k.invariant

pub returns : goal.returns
returns g c = so_far_all (cost_at c.args.model.now) (cost_in c.args.known.now) (beside c.args.instructions.now c.args.targets.now) c.loop-k.k c.loop-k.total (beside_past c.args.instructions.now c.args.targets.now c.loop-k.k c.loop-k-test.false) c.loop-k.invariant
