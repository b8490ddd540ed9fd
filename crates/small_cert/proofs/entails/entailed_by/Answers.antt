use Rattle.std.specs.Prelude.{◌≤ℤ◌, FitsSigned}
use Rattle.std.specs.Int.{w128}
use Rattle.std.proofs.Common.{arith, rules}
use Rattle.std.proofs.lemmas.Int.{ints, to_z-of_z}
use Rattle.lin_rows.specs.Rows.{lins}
use Rattle.small_sums.specs.Terms.{multipliers_of}
use Rattle.small_cert.proofs.Entailing.{entail_yes, entail_no, entail_none}
use Rattle.small_cert.proofs.entails.entailed_by.Goals as goal

pub returns-in_ok-shares_of-in-Some-2 : goal.returns-in_ok-shares_of-in-Some-2
returns-in_ok-shares_of-in-Some-2 c =
    let times : FitsSigned w128 c.times.result = search rules in
    let l : FitsSigned w128 c.constant.result = search rules in
    let constant : FitsSigned w128 c.in-Some.constant = search rules in
    let sum : FitsSigned w128 c.in-Some-2.sum.constant = search rules in
    let product = simp to_z-of_z at c.in-Some.ensures in
    let below = c.if-sum-constant.true in
    let le : c.in-Some-2.sum.constant ≤ℤ c.in-Some.constant = grind (arith, ints) in (
      multipliers_of c.in-Some-2.sum.terms,
      entail_yes (lins c.args.index.now) c.args.goal.now c.args.multiple c.coefficients.result.now c.in_ok-sum.field-0 c.in-Some-2.sum c.times.result c.constant.result c.in-Some.constant c.coefficients.ensures c.in-Some-2.is c.in_ok-sum.ensures c.times.ensures c.constant.ensures product.0 product.1 le,
      c.in_ok-shares_of-in-Some-2.ensures,
    )

pub returns-else-sum-constant : goal.returns-else-sum-constant
returns-else-sum-constant c =
    let times : FitsSigned w128 c.times.result = search rules in
    let l : FitsSigned w128 c.constant.result = search rules in
    let constant : FitsSigned w128 c.in-Some.constant = search rules in
    let sum : FitsSigned w128 c.in-Some-2.sum.constant = search rules in
    let product = simp to_z-of_z at c.in-Some.ensures in
    let above = c.if-sum-constant.false in
    entail_no (lins c.args.index.now) c.args.goal.now c.args.multiple c.coefficients.result.now c.in_ok-sum.field-0 c.in-Some-2.sum c.times.result c.constant.result c.in-Some.constant c.coefficients.ensures c.in-Some-2.is c.in_ok-sum.ensures c.times.ensures c.constant.ensures product.1
    (λ (le : c.in-Some-2.sum.constant ≤ℤ c.in-Some.constant). grind (arith, ints))

pub returns-in-None-2 : goal.returns-in-None-2
returns-in-None-2 c = entail_none (lins c.args.index.now) c.args.goal.now c.args.multiple c.coefficients.result.now c.in_ok-sum.field-0 c.coefficients.ensures c.in-None-2.is c.in_ok-sum.ensures
