-- How outcomes settle.
use Rattle.std.proofs.Common.{◌≡◌, ℕ, ◌+◌, List, [], ◌∷◌, Option, Some, None, refl, sym, ◌∙◌, ap}
use Rattle.class_hierarchy.specs.World.{World}
use Rattle.frames.specs.declared.value.Value.{Value}
use Rattle.frames.specs.declared.frame.Frame.{Frame}
use Rattle.steps.specs.declared.configuration.State.{State}
use Rattle.steps.specs.declared.configuration.Event.TheVariants as events
use Rattle.std.specs.Prelude.{if◌then◌else◌, Bool, true, false, option_and_then}
use Rattle.steps.specs.declared.returning.Back.TheVariants as backs
use Rattle.frames.specs.Standing.{Standing, standing_at}
use Rattle.frames.specs.Outcome.{has_room, with_words, in_frame}
use Rattle.steps.specs.Step.{acts_on, leave, outcome_of, resumed, resumed_by, return_to, running, settle, weight_of, with_result}
use Rattle.op_table.specs.Actions.{action_of}
use Rattle.steps.specs.inside.Stepping.{IsBack, back_of, back_in}

-- ---- returns

-- a frame that goes on stands behind its call
back_where : (cost pc place : ℕ) (before : State) (caller : Frame) (callers : List Frame) (frame : Frame) (stack : List Value) (room : Bool)
    → back_in (if room then Some (with_words caller place caller.locals stack) else None) ≡ backs.Resumes pc → frame ≡ with_words caller pc caller.locals stack
    → return_to cost before callers (if room then Some (with_words caller place caller.locals stack) else None)
    ≡ (events.Went, running (in_frame before.here frame) callers (before.spent + cost))
back_where cost pc place before caller callers frame stack true back is =
    let same : place ≡ pc = cc in
    rw (is, same) refl
back_where cost pc place before caller callers frame stack false back is = absurd (cc)

back_by : (cost pc : ℕ) (before : State) (caller : Frame) (callers : List Frame) (frame : Frame) (stack : List Value) (found : Option Standing)
    → back_in (option_and_then (resumed_by caller stack) found) ≡ backs.Resumes pc → frame ≡ with_words caller pc caller.locals stack
    → return_to cost before callers (option_and_then (resumed_by caller stack) found) ≡ (events.Went, running (in_frame before.here frame) callers (before.spent + cost))
back_by cost pc before caller callers frame stack None back is = absurd (cc)
back_by cost pc before caller callers frame stack (Some s) back is =
    back_where cost pc (caller.pc + s.instr.len) before caller callers frame stack (has_room s.code (caller.pc + s.instr.len) stack) back is

pub left_to : (w : World) (cost pc : ℕ) (before : State) (value : Option Value) (callers : List Frame) (frame : Frame) (waiting : List Frame)
    → back_of w value callers ≡ backs.Resumes pc → IsBack value pc callers frame waiting
    → leave w cost before value callers ≡ (events.Went, running (in_frame before.here frame) waiting (before.spent + cost))
unfolding resumed
left_to w cost pc before value [] frame waiting back is = absurd (is)
left_to w cost pc before value (caller ∷ callers) frame waiting back is =
    back_by cost pc before caller callers frame (with_result value caller.stack) (standing_at w caller) back is.0
    ∙ ap (λ (others : List Frame). (events.Went, running (in_frame before.here frame) others (before.spent + cost))) (sym is.1)

-- ---- steps

-- the instruction that comes next is made
pub advanced : (w : World) (weights : ℕ → ℕ) (cost : ℕ) (before : State) (s : Standing) → Some s ≡ standing_at w before.here.frame → cost ≡ weights s.instr.op
    → settle w (weight_of weights (standing_at w before.here.frame)) before (outcome_of w before.here) ≡ settle w cost before (acts_on w s before.here (action_of s.instr))
unfolding outcome_of
advanced w weights cost before s found is = rw (← found, is) refl
