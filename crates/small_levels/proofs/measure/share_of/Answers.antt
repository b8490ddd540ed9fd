use Rattle.std.specs.Prelude.{◌≡◌, Option, Result, IsOk, FitsSigned}
use Rattle.std.specs.Int.{w128}
use Rattle.std.specs.Option.{ok_or}
use Rattle.std.proofs.Common.{refl, rules, sym, ap, ◌∙◌, subst}
use Rattle.std.proofs.lemmas.Int.{to_z-of_z}
use Rattle.q128.specs.Fraction.{Fraction, whole}
use Rattle.q128.specs.Rule.{new_rule}
use Rattle.q128.specs.declared.q.TooWide.{TooWide}
use Rattle.q128.specs.declared.q.QOp.TheVariants.{Div}
use Rattle.small_levels.specs.Measured.{times_in}
use Rattle.small_levels.proofs.Measures.{new_some}
use Rattle.small_levels.proofs.measure.share_of.Goals as goal

pub unwrap-requires : goal.unwrap-requires
unwrap-requires c =
    let number : FitsSigned w128 c.args.number = search rules in
    let times : FitsSigned w128 c.times.result = search rules in
    let fault : TooWide = record { a = whole c.args.number; b = whole c.times.result; op = Div } in
    let answer : c.new.result ≡ ok_or (new_rule c.args.number c.times.result) fault = simp to_z-of_z at c.new.ensures.answer in
    let some = new_some c.args.number (times_in c.args.factor) in
    subst (λ (r : Result Fraction TooWide). IsOk r) (sym (answer ∙ ap (λ (o : Option Fraction). ok_or o fault) (ap (λ d. new_rule c.args.number d) c.times.ensures ∙ some.1))) refl
