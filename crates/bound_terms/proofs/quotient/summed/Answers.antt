use Rattle.std.specs.Prelude.{pos, ◌≡◌, ◌+ℤ◌, ◌*ℤ◌, FitsSigned, slice_index_or}
use Rattle.std.specs.Int.{w128}
use Rattle.std.proofs.Common.{arith, rules, get_or, subst, to_z}
use Rattle.std.proofs.lemmas.Int.{to_z-of_z}
use Rattle.std.proofs.lemmas.Result.{err_from_is_err_and}
use Rattle.bound_terms.specs.Values.{IsSummed, Answers}
use Rattle.bound_terms.specs.inside.Running.{running}
use Rattle.bound_terms.proofs.Sums.{kept, not_kept, answers}
use Rattle.bound_terms.proofs.quotient.summed.Goals as goal

pub loop-i-preserved : goal.loop-i-preserved
loop-i-preserved c =
    let sizes = c.args.sizes.now in
    let cs = c.coefficients-coefficients.result.now in
    let s = to_z w128 c.loop-i.sum-bits in
    let x = get_or cs c.loop-i.i (pos 0) in
    let size = slice_index_or sizes c.loop-i.i (pos 0) in
    let fit_x : FitsSigned w128 x = search rules in
    let fit_result : FitsSigned w128 c.size_at.result = search rules in
    let fit_size : FitsSigned w128 size = subst (FitsSigned w128) c.size_at.ensures fit_result in
    let made : FitsSigned w128 (s +ℤ (x *ℤ size)) × (c.in_ok-sum.sum ≡ s +ℤ (x *ℤ size)) = simp (to_z-of_z, c.size_at.ensures) at c.in_ok-sum.ensures in
    let fits : FitsSigned w128 c.in_ok-sum.sum = rw made.1 made.0 in
    rw (to_z-of_z w128 c.in_ok-sum.sum fits, made.1) (kept sizes (IsSummed sizes c.args.expression.now) (running sizes (pos 0) 0 cs) c.args.expression.now.constant s c.loop-i.i cs (omega arith) made.0 c.loop-i.invariant)

pub returns-in_err-sum : goal.returns-in_err-sum
returns-in_err-sum c =
    let sizes = c.args.sizes.now in
    let cs = c.coefficients-coefficients.result.now in
    let s = to_z w128 c.loop-i.sum-bits in
    let x = get_or cs c.loop-i.i (pos 0) in
    let size = slice_index_or sizes c.loop-i.i (pos 0) in
    let fit_x : FitsSigned w128 x = search rules in
    let fit_result : FitsSigned w128 c.size_at.result = search rules in
    let fit_size : FitsSigned w128 size = subst (FitsSigned w128) c.size_at.ensures fit_result in
    let wide : ¬ FitsSigned w128 (s +ℤ (x *ℤ size)) = simp (to_z-of_z, c.size_at.ensures) at c.in_err-sum.ensures in
    let p = err_from_is_err_and c.from_residual.result c.from_residual.ensures.1 in
    rw p.1 (not_kept sizes (IsSummed sizes c.args.expression.now) (running sizes (pos 0) 0 cs) c.args.expression.now.constant s c.loop-i.i cs (omega arith) wide c.loop-i.invariant)

pub returns : goal.returns
returns c =
    let cs = c.coefficients-coefficients.result.now in
    let s = to_z w128 c.loop-i.sum-bits in
    let fit_result : FitsSigned w128 c.constant.result = search rules in
    let fit : FitsSigned w128 c.args.expression.now.constant = subst (FitsSigned w128) c.constant.ensures fit_result in
    let made : Answers c.plus_constant.result (FitsSigned w128 (s +ℤ c.args.expression.now.constant)) (s +ℤ c.args.expression.now.constant) = simp (to_z-of_z, c.constant.ensures) at c.plus_constant.ensures in
    answers c.args.sizes.now c.args.expression.now cs s c.loop-i.i c.plus_constant.result c.coefficients-coefficients.ensures (omega arith) c.loop-i.invariant made
