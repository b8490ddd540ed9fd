use Rattle.std.proofs.Common.{refl, sym, ◌∙◌}
use Rattle.analyser.proofs.Causes.{answer_refused}
use Rattle.analyser.proofs.top.answer_to.Goals as goal

pub returns-in-Err-clause-answer : goal.returns-in-Err-clause-answer
returns-in-Err-clause-answer g c =
    answer_refused _ _ _ c.in-Err.status refl (sym c.in_ok-request.ensures.asked ∙ c.in-Err.is) (λ e. c.in_ok-request.ensures.told (c.in_ok-request.ensures.asked ∙ e))
