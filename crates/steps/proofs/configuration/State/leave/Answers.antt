use Rattle.std.proofs.Common.{◌≡◌, ◌+◌, sym, ◌∙◌, ap, refl}
use Rattle.steps.specs.declared.configuration.State.{State}
use Rattle.steps.specs.declared.configuration.Event.TheVariants as events
use Rattle.frames.specs.Outcome.{in_frame}
use Rattle.steps.specs.Step.{running}
use Rattle.steps.proofs.Settling.{left_to}
use Rattle.steps.proofs.configuration.State.leave.Goals as goal

pub returns-in_ok-resume-in-Resumes-clause-left : goal.returns-in_ok-resume-in-Resumes-clause-left
returns-in_ok-resume-in-Resumes-clause-left c =
    let s = c.args.self.now in
    let after : running (in_frame s.here c.resume.new.frame) c.resume.new.callers (s.spent + c.args.cost) ≡ c.charge.new.self = rw (c.charge.ensures, c.requires.runs) refl in
    left_to c.args.world.now c.args.cost c.in-Resumes.next s c.args.value s.callers c.resume.new.frame c.resume.new.callers (sym c.back_of.ensures ∙ c.in-Resumes.is) c.in_ok-resume-in-Resumes.ensures.ok
    ∙ ap (λ (now : State). (events.Went, now)) after
