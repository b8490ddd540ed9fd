use Rattle.std.specs.Prelude.{FitsSigned}
use Rattle.std.specs.Int.{w128}
use Rattle.std.proofs.Common.{rules, ap, ◌∙◌, subst}
use Rattle.std.proofs.lemmas.Int.{to_z-of_z}
use Rattle.q128.specs.Fraction.{Fraction, IsLowest}
use Rattle.small_cert.specs.Multiples.{times_of}
use Rattle.small_caps.proofs.Candidates.{is_multiple, no_coefficient, coefficient_answer}
use Rattle.small_caps.proofs.candidate.coefficient_at.Goals as goal

pub returns-in-Some : goal.returns-in-Some
returns-in-Some c =
    let num : FitsSigned w128 c.numerator-number.result = search rules in
    let own : FitsSigned w128 c.get-own.result = search rules in
    let made : FitsSigned w128 c.in-Some.made = search rules in
    let value = simp to_z-of_z at c.in-Some.ensures in
    let answer = simp to_z-of_z at c.over.ensures in
    coefficient_answer c.over.result c.args.sum.now c.args.l.now c.args.entry.now (times_of c.args.multiple) c.args.v c.in-Some.made c.numerator-number.result c.get-own.result (is_multiple c.args.multiple) c.requires
    (subst (λ (x : Fraction). IsLowest x) c.get.ensures c.numerator-number.ensures.lowest) (c.numerator-number.ensures.value ∙ ap (λ (x : Fraction). x.num) c.get.ensures) c.get-own.ensures value num made answer

pub returns-in-None : goal.returns-in-None
returns-in-None c =
    let num : FitsSigned w128 c.numerator-number.result = search rules in
    let own : FitsSigned w128 c.get-own.result = search rules in
    let none = simp to_z-of_z at c.in-None.ensures in
    λ x. no_coefficient c.args.sum.now c.args.l.now c.args.entry.now (times_of c.args.multiple) c.args.v x c.numerator-number.result c.get-own.result c.requires
    (subst (λ (x : Fraction). IsLowest x) c.get.ensures c.numerator-number.ensures.lowest) (c.numerator-number.ensures.value ∙ ap (λ (x : Fraction). x.num) c.get.ensures) c.get-own.ensures none
