use Rattle.std.specs.Prelude.{ℤ, pos, List, IfOk}
use Rattle.std.proofs.Common.{◌≡◌, ◌∙◌, subst}
use Rattle.small_rank.proofs.functions.zero.Goals as goal

pub returns : goal.returns
returns c = subst (λ (xs : List ℤ). IfOk c.new.result (λ f. f ≡ record { coefficients = xs; constant = pos 0 })) (c.deref.ensures.value ∙ c.in_ok-list.ensures.items_if_clones_equal (λ y h. h)) c.new.ensures
