use Rattle.std.specs.Prelude.{◌+◌, List, ◌++◌, [], ◌∷◌}
use Rattle.std.specs.List.{AllZip}
use Rattle.std.proofs.Common.{sym, ap, ◌∙◌, subst, take}
use Rattle.std.proofs.lemmas.List.{take_more}
use Rattle.lin_rows.specs.declared.row.Transition.{Transition}
use Rattle.small_rank.specs.declared.ranking.StepProof.{StepProof}
use Rattle.small_rank.specs.Answer.{ProvesStep}
use Rattle.small_rank.proofs.Stepped.{AllZip-push}
use Rattle.small_rank.proofs.ranking.proofs_of.Goals as goal

pub loop-step-preserved : goal.loop-step-preserved
loop-step-preserved c =
    let steps = c.args.steps.now in
    let t = c.step-item.result in
    let i = c.loop-step.step-index in
    subst (λ (ps : List StepProof). AllZip (ProvesStep c.args.f.now) ps (take (i + 1) steps)) (sym c.in_ok-push.ensures.ok)
    (subst (λ (ts : List Transition). AllZip (ProvesStep c.args.f.now) (c.loop-step.proofs ++ c.in_ok-proof_of.field-0 ∷ []) ts) (ap (λ (x : Transition). take i steps ++ x ∷ []) c.step-item.is ∙ sym (take_more steps i t c.loop-step-test.true))
    (AllZip-push (ProvesStep c.args.f.now) c.loop-step.proofs (take i steps) c.in_ok-proof_of.field-0 t c.loop-step.invariant c.in_ok-proof_of.ensures))
