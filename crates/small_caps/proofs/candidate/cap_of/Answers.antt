use Rattle.std.specs.Prelude.{ℤ, List, FitsSigned}
use Rattle.std.specs.Int.{w128}
use Rattle.std.proofs.Common.{rules, ap, ◌∙◌, subst}
use Rattle.std.proofs.lemmas.Int.{to_z-of_z}
use Rattle.q128.specs.Fraction.{Fraction, IsLowest}
use Rattle.small_cert.specs.Multiples.{times_of}
use Rattle.small_caps.proofs.Candidates.{cap_coefficients, no_constant, cap_made}
use Rattle.small_caps.proofs.candidate.cap_of.Goals as goal

pub returns-in-None : goal.returns-in-None
returns-in-None c =
    let none = (rw c.in-None.is at c.in_ok-list.ensures) in
    λ u h. none u.coefficients (cap_coefficients c.args.sum.now c.args.l.now c.args.entry.now (times_of c.args.multiple) u h)

pub returns-in-Some-constant : goal.returns-in-Some-constant
returns-in-Some-constant c =
    let num : FitsSigned w128 c.numerator.result = search rules in
    let own : FitsSigned w128 c.constant-2.result = search rules in
    let made : FitsSigned w128 c.in-Some-constant.made = search rules in
    let list = (rw c.in-Some.is at c.in_ok-list.ensures) in
    let rounded = simp to_z-of_z at c.in-Some-constant.ensures in
    let is = simp to_z-of_z at c.in_ok-new-in-Some-constant.ensures in
    cap_made c.args.sum.now c.args.l.now c.args.entry.now (times_of c.args.multiple) c.in-Some.list.items c.in_ok-new-in-Some-constant.field-0 c.numerator.result c.constant-2.result c.in-Some-constant.made
    (subst (λ (x : Fraction). IsLowest x) c.constant.ensures c.numerator.ensures.lowest) c.requires (c.numerator.ensures.value ∙ ap (λ (x : Fraction). x.num) c.constant.ensures) c.constant-2.ensures
    list.0 rounded.0 made.sfits rounded.1 (is ∙ ap (λ (xs : List ℤ). record { coefficients = xs; constant = c.in-Some-constant.made }) c.deref.ensures.value)

pub returns : goal.returns
returns c =
    let num : FitsSigned w128 c.numerator.result = search rules in
    let own : FitsSigned w128 c.constant-2.result = search rules in
    let none = simp to_z-of_z at c.in-None-constant.ensures in
    λ u. no_constant c.args.sum.now c.args.l.now c.args.entry.now (times_of c.args.multiple) u c.numerator.result c.constant-2.result
    (subst (λ (x : Fraction). IsLowest x) c.constant.ensures c.numerator.ensures.lowest) c.requires (c.numerator.ensures.value ∙ ap (λ (x : Fraction). x.num) c.constant.ensures) c.constant-2.ensures none
