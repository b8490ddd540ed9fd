use Rattle.std.specs.Prelude.{◌++◌, [], ◌∷◌, List}
use Rattle.std.proofs.Common.{sym, ap, ◌∙◌, subst, take}
use Rattle.std.proofs.lemmas.List.{take_more, take_all}
use Rattle.lin_rows.specs.declared.row.Transition.{Transition}
use Rattle.small_levels.specs.Leveled.{IsLive}
use Rattle.small_levels.specs.Measured.{AreKnown, HasNoLevels}
use Rattle.small_levels.proofs.LevelSums.{no_levels, known_answer}
use Rattle.small_levels.proofs.levels.levels_over.Goals as goal

pub returns-in-None : goal.returns-in-None
returns-in-None c =
    let steps = c.args.steps.now in
    let t = c.step-item.result in
    let none : IsLive t × HasNoLevels (t ∷ []) c.args.f.now = rw c.in-None.is at c.in_ok-more.ensures in
    no_levels steps t c.args.f.now (c.loop-step.step-index, c.loop-step-test.true, sym c.step-item.is) none.0 none.1

pub loop-step-preserved : goal.loop-step-preserved
loop-step-preserved c =
    let steps = c.args.steps.now in
    let t = c.step-item.result in
    let i = c.loop-step.step-index in
    let more : (before : List Transition) → AreKnown before c.args.f.now c.loop-step.known → AreKnown (before ++ t ∷ []) c.args.f.now c.in-Some.more = rw c.in-Some.is at c.in_ok-more.ensures in
    subst (λ (ts : List Transition). AreKnown ts c.args.f.now c.in-Some.more) (ap (λ (x : Transition). take i steps ++ x ∷ []) c.step-item.is ∙ sym (take_more steps i t c.loop-step-test.true)) (more (take i steps) c.loop-step.invariant)

pub returns : goal.returns
returns c = known_answer c.args.steps.now c.args.f.now c.loop-step.known (subst (λ (ts : List Transition). AreKnown ts c.args.f.now c.loop-step.known) (take_all c.loop-step.step-index c.args.steps.now c.loop-step-test.false) c.loop-step.invariant)
