use Rattle.std.proofs.Common.{◌<◌, length, get_or, arith}
use Rattle.std.proofs.lemmas.Option.{slice_get-get_or}
use Rattle.cost_model.specs.Costs.{cost_at}
use Rattle.code_flow.specs.Plans.{plan_of, plans_of}
use Rattle.call_costs.proofs.Besides.{plan_at}
use Rattle.call_costs.specs.Costs.{IsTooGreat}
use Rattle.call_costs.specs.Knowing.{cost_in}
use Rattle.call_costs.proofs.Orders.{knows_next, knows_all, too_great, order_inside, handed_on}
use Rattle.call_costs.proofs.callees.price_all.Goals as goal

pub loop-k-preserved : goal.loop-k-preserved
loop-k-preserved g c =
    let methods = plans_of c.args.methods.now in
    let order = c.args.order.now in
    let i = c.loop-k.k-index in
    let k = get_or order i 0 in
    let inside : k < length methods = order_inside methods order i 0 c.requires.first c.loop-k-test.true in
    knows_next (cost_at c.args.model.now) methods order i k (plan_of c.index-methods-k.result) (cost_in c.loop-k.known) (cost_in c.price.new.known) c.requires.once c.requires.first
    (slice_get-get_or order i 0 c.loop-k-test.true)
    (plan_at c.args.methods.now k c.index-methods-k.result inside c.index-methods-k.is)
    c.in_ok-price.ensures.priced c.loop-k.invariant

pub returns-in_err-price-clause-too_great : goal.returns-in_err-price-clause-too_great
returns-in_err-price-clause-too_great g c =
    let methods = plans_of c.args.methods.now in
    let order = c.args.order.now in
    let i = c.loop-k.k-index in
    let k = get_or order i 0 in
    let inside : k < length methods = order_inside methods order i 0 c.requires.first c.loop-k-test.true in
    handed_on (IsTooGreat (cost_at c.args.model.now) methods) c.from_residual.result c.in_err-price.field-0.0 c.from_residual.ensures.1
    (λ is.
    too_great (cost_at c.args.model.now) methods order i k (plan_of c.index-methods-k.result) (cost_in c.loop-k.known) c.requires.once c.requires.first
    (slice_get-get_or order i 0 c.loop-k-test.true)
    (plan_at c.args.methods.now k c.index-methods-k.result inside c.index-methods-k.is)
    (c.in_err-price.ensures.too_great is) c.loop-k.invariant)

pub returns-clause-costs : goal.returns-clause-costs
returns-clause-costs g c =
    knows_all (cost_at c.args.model.now) (plans_of c.args.methods.now) c.args.order.now c.loop-k.k-index (cost_in c.loop-k.known) c.requires.first (omega arith) c.loop-k.invariant
