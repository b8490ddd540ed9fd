use Rattle.std.proofs.Common.{sym, ◌∙◌, ap}
use Rattle.bound_terms.specs.Bounds.{term_of}
use Rattle.bound_terms.specs.Texts.{is_one}
use Rattle.bound_terms.proofs.Writing.{left_out_several, not_several}
use Rattle.bound_terms.proofs.texts.is_left_out.Goals as goal

pub returns-then-parts-gt1 : goal.returns-then-parts-gt1
returns-then-parts-gt1 c = c.is_one.ensures ∙ ap (λ b. is_one (term_of b)) c.index-parts-0.is ∙ sym (left_out_several c.args.parts.now c.index-parts-0.result c.if-parts-gt1.true)

pub returns-else-parts-gt1 : goal.returns-else-parts-gt1
returns-else-parts-gt1 c = not_several c.args.parts.now c.if-parts-gt1.false
