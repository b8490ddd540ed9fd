use Rattle.std.specs.Prelude.{◌≡◌, pos, Some, Option, Result, IsOk}
use Rattle.std.specs.Option.{ok_or}
use Rattle.std.proofs.Common.{refl, sym, ap, ◌∙◌, subst}
use Rattle.q128.specs.Fraction.{Fraction, whole}
use Rattle.q128.specs.Rule.{new_rule, gcd, greatest_up_to, signed}
use Rattle.q128.specs.declared.q.TooWide.{TooWide}
use Rattle.q128.specs.declared.q.QOp.TheVariants.{Div}
use Rattle.small_cert.proofs.share.half.Goals as goal

one_half : new_rule (pos 1) (pos 2) ≡ Some (record { num = pos 1; den_less_one = 1 })
unfolding new_rule gcd greatest_up_to signed
one_half = refl

pub unwrap-requires : goal.unwrap-requires
unwrap-requires c = subst (λ (r : Result Fraction TooWide). IsOk r) (sym (c.new.ensures.answer ∙ ap (λ (o : Option Fraction). ok_or o (record { a = whole (pos 1); b = whole (pos 2); op = Div })) one_half)) refl
