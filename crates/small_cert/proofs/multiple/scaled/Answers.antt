use Rattle.std.specs.Prelude.{◌≡◌, ◌+◌, ℤ, pos, List, [], ◌∷◌, ◌++◌, All, FitsSigned}
use Rattle.std.specs.Int.{w128}
use Rattle.std.proofs.Common.{rules, sym, ap, ◌∙◌, subst, get_or, take}
use Rattle.std.proofs.lemmas.List.{take_all}
use Rattle.std.proofs.lemmas.List.Elements.{All-push}
use Rattle.q128.specs.Laws.{IsNarrow}
use Rattle.std.proofs.lemmas.Int.{to_z-of_z}
use Rattle.small_cert.specs.inside.Levels.{scaled_list}
use Rattle.small_cert.proofs.Scaling.{fits_narrow, not_all_fit, scaled_more}
use Rattle.small_cert.proofs.multiple.scaled.Goals as goal

pub returns-in-None : goal.returns-in-None
returns-in-None c =
    let factor : FitsSigned w128 c.args.factor = search rules in
    let number : FitsSigned w128 (get_or c.args.numbers.now c.loop-number.number-index (pos 0)) = search rules in
    not_all_fit c.args.factor c.args.numbers.now c.loop-number.number-index c.loop-number-test.true (simp to_z-of_z at c.in-None.ensures)

pub loop-number-preserved : goal.loop-number-preserved
loop-number-preserved c =
    let i = c.loop-number.number-index in
    let factor : FitsSigned w128 c.args.factor = search rules in
    let number : FitsSigned w128 (get_or c.args.numbers.now i (pos 0)) = search rules in
    let product = simp to_z-of_z at c.in-Some.ensures in
    let made : FitsSigned w128 c.in-Some.product = search rules in
    let items : c.push.new.self.items ≡ c.loop-number.all.items ++ c.in-Some.product ∷ [] = simp to_z-of_z at c.in_ok-push-in-Some.ensures.items in
    let before : c.loop-number.all.items ≡ scaled_list c.args.factor (take i c.args.numbers.now) = simp to_z-of_z at c.loop-number.invariant.made in
    let pushed = All-push IsNarrow c.loop-number.all.items c.in-Some.product c.loop-number.invariant.narrow (subst IsNarrow (sym product.1) (fits_narrow _ product.0)) in
    let now : c.push.new.self.items ≡ scaled_list c.args.factor (take (i + 1) c.args.numbers.now) = items ∙ ap (λ (x : ℤ). c.loop-number.all.items ++ x ∷ []) product.1 ∙ scaled_more c.args.factor c.args.numbers.now c.loop-number.all.items i c.loop-number-test.true before in
    record { narrow = subst (λ (xs : List ℤ). All IsNarrow xs) (sym items) pushed; made = simp to_z-of_z now }

pub returns : goal.returns
returns c =
    let factor : FitsSigned w128 c.args.factor = search rules in
    let before : c.loop-number.all.items ≡ scaled_list c.args.factor (take c.loop-number.number-index c.args.numbers.now) = simp to_z-of_z at c.loop-number.invariant.made in
    let all : c.loop-number.all.items ≡ scaled_list c.args.factor c.args.numbers.now = before ∙ ap (λ (xs : List ℤ). scaled_list c.args.factor xs) (take_all c.loop-number.number-index c.args.numbers.now c.loop-number-test.false) in
    (subst (λ (xs : List ℤ). All IsNarrow xs) all c.loop-number.invariant.narrow, all)
