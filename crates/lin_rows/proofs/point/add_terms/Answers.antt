use Rattle.std.specs.Prelude.{pos, ◌≡◌, FitsSigned}
use Rattle.std.specs.Int.{w128}
use Rattle.std.proofs.Common.{arith, rules, get_or, refl}
use Rattle.std.proofs.lemmas.Int.{to_z-of_z}
use Rattle.std.proofs.lemmas.Result.{err_from_is_err_and}
use Rattle.lin_rows.specs.Combining.{term_added}
use Rattle.lin_rows.proofs.Terms.{terms_ok, terms_err, terms_end}
use Rattle.lin_rows.proofs.point.add_terms.Goals as goal

pub loop-i-preserved : goal.loop-i-preserved
loop-i-preserved c =
    let coefficient = get_or c.args.coefficients.now c.loop-i.i (pos 0) in
    let fit : FitsSigned w128 coefficient = search rules in
    let called : c.add_term.result ≡ term_added c.loop-i.sum c.index-v-i.result coefficient = simp to_z-of_z at c.add_term.ensures in
    terms_ok c.loop-i.sum c.args.coefficients.now c.args.v.now c.loop-i.i coefficient c.index-v-i.result c.in_ok-sum.sum c.add_term.result _ (omega arith) (omega arith) refl c.index-v-i.is called c.in_ok-sum.was c.loop-i.invariant

pub returns-in_err-sum : goal.returns-in_err-sum
returns-in_err-sum c =
    let coefficient = get_or c.args.coefficients.now c.loop-i.i (pos 0) in
    let fit : FitsSigned w128 coefficient = search rules in
    let called : c.add_term.result ≡ term_added c.loop-i.sum c.index-v-i.result coefficient = simp to_z-of_z at c.add_term.ensures in
    let p = err_from_is_err_and c.from_residual.result c.from_residual.ensures.1 in
    rw (p.1, p.2) (terms_err c.loop-i.sum c.args.coefficients.now c.args.v.now c.loop-i.i coefficient c.index-v-i.result _ c.add_term.result _ (omega arith) (omega arith) refl c.index-v-i.is called c.in_err-sum.was c.loop-i.invariant)

pub returns : goal.returns
returns c = terms_end c.loop-i.sum c.args.coefficients.now c.args.v.now c.loop-i.i _ (omega arith) c.loop-i.invariant
