use Rattle.std.proofs.Common.{◌∙◌, sym, ap}
use Rattle.std.proofs.lemmas.Result.{err_from_is_err_and}
use Rattle.bound_forms.proofs.Formation.{total_begins, total_steps, total_faults, total_part_faults, total_ends, zero_formed, handed, product_begins, product_steps, product_faults, product_part_faults, one_faults, product_ends, maximum_begins, operands_low, maximum_steps, maximum_part_faults, operands_rise, maximum_ends, number_bound, floor_bound, power_bound, geometric_bound, sum_bound, product_bound, maximum_bound}
use Rattle.bound_forms.proofs.Views.{power_term, geometric_term}
use Rattle.bound_terms.specs.Bounds.{term_of}
use Rattle.bound_forms.proofs.forming.+forming.Goals as goal

-- ---- form
pub form-returns-in-Const : goal.form-returns-in-Const
form-returns-in-Const t c = number_bound c.constant.result c.args.bound.now c.in-Const.n c.in-Const.is c.constant.ensures

pub form-returns-in-Nat : goal.form-returns-in-Nat
form-returns-in-Nat t c = floor_bound c.floor_form.result c.args.bound.now c.in-Nat.n c.in-Nat.is c.floor_form.ensures

pub form-returns-in-Sum : goal.form-returns-in-Sum
form-returns-in-Sum t c = sum_bound c.total.result c.args.bound.now c.in-Sum.parts c.as_slice.result.now c.in-Sum.is c.as_slice.ensures.value c.total.ensures

pub form-returns-in-Prod : goal.form-returns-in-Prod
form-returns-in-Prod t c = product_bound c.product.result c.args.bound.now c.in-Prod.parts c.as_slice-in-Prod.result.now c.in-Prod.is c.as_slice-in-Prod.ensures.value c.product.ensures

pub form-returns-in-Max : goal.form-returns-in-Max
form-returns-in-Max t c = maximum_bound c.greatest.result c.args.bound.now c.in-Max.parts c.as_slice-in-Max.result.now c.in-Max.is c.as_slice-in-Max.ensures.value c.greatest.ensures

pub form-power_form-requires : goal.form-power_form-requires
form-power_form-requires t c = ap term_of c.in-Pow.is ∙ power_term c.in-Pow.b c.in-Pow.n

pub form-returns-in-Pow : goal.form-returns-in-Pow
form-returns-in-Pow t c = power_bound c.power_form.result c.args.bound.now c.in-Pow.b c.in-Pow.n c.in-Pow.is c.power_form.ensures

pub form-geometric_form-requires : goal.form-geometric_form-requires
form-geometric_form-requires t c = ap term_of c.in-Geo.is ∙ geometric_term c.in-Geo.b c.in-Geo.n

pub form-returns-in-Geo : goal.form-returns-in-Geo
form-returns-in-Geo t c = geometric_bound c.geometric_form.result c.args.bound.now c.in-Geo.b c.in-Geo.n c.in-Geo.is c.geometric_form.ensures

-- ---- sums
pub total-loop-part-init : goal.total-loop-part-init
total-loop-part-init t c = total_begins c.args.parts.now c.new-gathering.result c.new-gathering.ensures

pub total-returns-in_err-form : goal.total-returns-in_err-form
total-returns-in_err-form t c =
    let p = err_from_is_err_and c.from_residual.result c.from_residual.ensures.1 in
    rw (p.1, p.2) (total_part_faults c.in_err-form.field-0.0 c.args.parts.now c.loop-part.part-index c.part-item.result c.loop-part-test.true c.part-item.is c.in_err-form.ensures)

pub total-returns-in_err-put_all : goal.total-returns-in_err-put_all
total-returns-in_err-put_all t c =
    let p = err_from_is_err_and c.from_residual-in_err-put_all.result c.from_residual-in_err-put_all.ensures.1 in
    rw (p.1, p.2) (total_faults c.in_err-put_all.field-0.0 c.args.parts.now c.loop-part.part-index c.part-item.result c.in_ok-form.field-0 c.loop-part.gathering c.loop-part-test.true c.part-item.is c.in_ok-form.ensures c.in_err-put_all.ensures c.loop-part.invariant)

pub total-loop-part-preserved : goal.total-loop-part-preserved
total-loop-part-preserved t c =
    total_steps c.args.parts.now c.loop-part.part-index c.part-item.result c.in_ok-form.field-0 c.loop-part.gathering c.put_all.new.gathering c.loop-part-test.true c.part-item.is c.in_ok-form.ensures c.in_ok-put_all.ensures c.loop-part.invariant

pub total-returns : goal.total-returns
total-returns t c = total_ends c.finish.result c.args.parts.now c.loop-part.part-index c.loop-part.gathering c.loop-part-test.false c.loop-part.invariant c.finish.ensures

-- ---- products
pub product-returns-then-some_zero : goal.product-returns-then-some_zero
product-returns-then-some_zero t c = zero_formed c.args.parts.now c.new.result (sym c.some_zero.ensures ∙ c.if-some_zero.true) c.new.ensures.items

pub product-returns-in_err-product : goal.product-returns-in_err-product
product-returns-in_err-product t c =
    let p = err_from_is_err_and c.from_residual.result c.from_residual.ensures.1 in
    rw (p.1, p.2) (one_faults c.in_err-product.field-0.0 _ c.in_err-product.ensures)

pub product-loop-part-init : goal.product-loop-part-init
product-loop-part-init t c = product_begins c.args.parts.now c.in_ok-product.product.items c.in_ok-product.ensures.0 c.in_ok-product.ensures.1

pub product-returns-in_err-factor : goal.product-returns-in_err-factor
product-returns-in_err-factor t c =
    let p = err_from_is_err_and c.from_residual-in_err-factor.result c.from_residual-in_err-factor.ensures.1 in
    rw (p.1, p.2) (product_part_faults c.in_err-factor.field-0.0 c.args.parts.now c.loop-part.part-index c.part-item.result (sym c.some_zero.ensures ∙ c.if-some_zero.false) c.loop-part-test.true c.part-item.is c.in_err-factor.ensures)

pub product-returns-in_err-product-2 : goal.product-returns-in_err-product-2
product-returns-in_err-product-2 t c =
    let p = err_from_is_err_and c.from_residual-in_err-product-2.result c.from_residual-in_err-product-2.ensures.1 in
    rw (p.1, p.2) (product_faults c.in_err-product-2.field-0.0 c.args.parts.now c.loop-part.part-index c.part-item.result c.in_ok-factor.factor c.loop-part.product.items _ (sym c.some_zero.ensures ∙ c.if-some_zero.false) c.loop-part-test.true c.part-item.is c.in_ok-factor.ensures
    (handed c.as_slice.result.now c.as_slice-in-loop-part.result.now c.loop-part.product.items c.in_ok-factor.factor.items c.as_slice.ensures.value c.as_slice-in-loop-part.ensures.value) c.in_err-product-2.ensures c.loop-part.invariant)

pub product-loop-part-preserved : goal.product-loop-part-preserved
product-loop-part-preserved t c =
    product_steps c.args.parts.now c.loop-part.part-index c.part-item.result c.in_ok-factor.factor c.in_ok-product-2.product c.loop-part.product.items _ c.loop-part-test.true c.part-item.is c.in_ok-factor.ensures
    (handed c.as_slice.result.now c.as_slice-in-loop-part.result.now c.loop-part.product.items c.in_ok-factor.factor.items c.as_slice.ensures.value c.as_slice-in-loop-part.ensures.value) c.in_ok-product-2.ensures c.loop-part.invariant

pub product-returns : goal.product-returns
product-returns t c = product_ends c.loop-part.product c.args.parts.now c.loop-part.part-index c.loop-part-test.false c.loop-part.invariant

-- ---- maxima
pub greatest-loop-part-init : goal.greatest-loop-part-init
greatest-loop-part-init t c = maximum_begins c.args.parts.now c.new-operands.result.items c.new-operands.ensures.items

pub greatest-returns-in_err-form : goal.greatest-returns-in_err-form
greatest-returns-in_err-form t c =
    let p = err_from_is_err_and c.from_residual.result c.from_residual.ensures.1 in
    rw (p.1, p.2) (maximum_part_faults c.in_err-form.field-0.0 c.args.parts.now c.loop-part.part-index c.part-item.result c.loop-part-test.true c.part-item.is c.in_err-form.ensures)

pub greatest-put_operands-requires : goal.greatest-put_operands-requires
greatest-put_operands-requires t c = operands_low c.in_ok-form.field-0 (term_of c.part-item.result) c.in_ok-form.ensures

pub greatest-returns-in_err-put_operands : goal.greatest-returns-in_err-put_operands
greatest-returns-in_err-put_operands t c =
    let p = err_from_is_err_and c.from_residual-in_err-put_operands.result c.from_residual-in_err-put_operands.ensures.1 in
    rw (p.1, p.2) tt

pub greatest-loop-part-preserved : goal.greatest-loop-part-preserved
greatest-loop-part-preserved t c =
    maximum_steps c.args.parts.now c.loop-part.part-index c.part-item.result c.in_ok-form.field-0 c.loop-part.operands.items c.put_operands.new.operands.items c.loop-part-test.true c.part-item.is c.in_ok-form.ensures c.in_ok-put_operands.ensures c.loop-part.invariant

pub greatest-greatest_form-requires : goal.greatest-greatest_form-requires
greatest-greatest_form-requires t c = operands_rise c.loop-part.operands.items c.args.parts.now c.loop-part.part-index c.loop-part-test.false c.loop-part.invariant

pub greatest-returns-in_err-greatest_form : goal.greatest-returns-in_err-greatest_form
greatest-returns-in_err-greatest_form t c =
    let p = err_from_is_err_and c.from_residual-in_err-greatest_form.result c.from_residual-in_err-greatest_form.ensures.1 in
    rw (p.1, p.2) tt

pub greatest-returns : goal.greatest-returns
greatest-returns t c = maximum_ends c.in_ok-greatest_form.field-0 c.args.parts.now c.loop-part.part-index c.loop-part.operands.items c.loop-part-test.false c.loop-part.invariant c.in_ok-greatest_form.ensures
