use Rattle.std.specs.Prelude.{◌≡◌, List, length, FitsSigned}
use Rattle.std.specs.Int.{w128}
use Rattle.std.proofs.Common.{refl, arith, rules, ap, ◌∙◌, get_or, subst}
use Rattle.std.proofs.lemmas.Int.{to_z-of_z}
use Rattle.q128.specs.Fraction.{Fraction, whole, IsSame}
use Rattle.lin_rows.specs.Combining.{Combination}
use Rattle.lin_rows.specs.Linear.{coefficient_of}
use Rattle.lin_rows.proofs.Places.{same_more, same_everywhere}
use Rattle.lin_rows.proofs.comb.Comb.has_coefficients.Goals as goal

pub loop-i-init : goal.loop-i-init
loop-i-init c = λ v h. absurd (omega (arith, h))

pub loop-i-preserved : goal.loop-i-preserved
loop-i-preserved c =
    let fit : FitsSigned w128 c.get.result = search rules in
    let made : c.whole.result ≡ whole c.get.result = simp to_z-of_z at c.whole.ensures in
    let same : IsSame c.index.result.now (whole (coefficient_of c.args.goal.now c.loop-i.i)) = subst (λ (y : Fraction). IsSame c.index.result.now y) (made ∙ ap whole c.get.ensures) (c.if-not-is_same.ensures.0 refl) in
    let viewed : c.self.inside.places.items ≡ c.args.self.now.coefficients = ap (λ (s : Combination). s.coefficients) c.self.view_is in
    same_more c.args.self.now.coefficients c.args.goal.now c.loop-i.i c.index.result.now (omega (arith, ap length viewed)) (c.index.ensures ∙ ap (λ (xs : List Fraction). get_or xs c.loop-i.i c.index.result.now) viewed) same c.loop-i.invariant

pub returns : goal.returns
returns c =
    let places = ap (λ (s : Combination). length s.coefficients) c.self.view_is in
    (λ _. same_everywhere c.args.self.now c.args.goal.now c.loop-i.i (omega (arith, places)) c.requires c.loop-i.invariant, λ _. refl)
