-- Steps lead from well-formed configurations to well-formed ones.
use Rattle.std.proofs.Common.{◌≡◌, ℕ, zero, suc, ◌+◌, Bool, true, false, ◌&&◌, List, [], ◌∷◌, length, Option, Some, None, refl, sym, ◌∙◌, ap, subst, All, nat_le, nat_lt}
use Rattle.std.specs.Prelude.{if◌then◌else◌, option_and_then, slice_get}
use Rattle.std.specs.List.{AllByRecursion}
use Rattle.std.proofs.lemmas.List.Elements.{All-from_recursion, All-weaker}
use Rattle.world.specs.declared.member.MemberId.{MemberId}
use Rattle.class_hierarchy.specs.World.{World}
use Rattle.class_hierarchy.specs.Building.{IsWellBuilt}
use Rattle.frames.specs.declared.value.Value.{Value}
use Rattle.frames.specs.declared.frame.Frame.{Frame}
use Rattle.frames.specs.declared.here.Here.{Here}
use Rattle.frames.specs.Heap.{Cells}
use Rattle.frames.specs.Outcome.{Outcome, Goes, Enters, Leaves, Throws, Stops, with_words}
use Rattle.frames.specs.Standing.{Standing, standing_at}
use Rattle.steps.specs.declared.configuration.State.{State}
use Rattle.steps.specs.declared.configuration.Status.{Status}
use Rattle.steps.specs.declared.configuration.Status.TheVariants as statuses
use Rattle.steps.specs.declared.configuration.Event.TheVariants as events
use Rattle.steps.specs.Step.{Step, outcome_of, weight_of, with_result, resumed, resumed_by, return_to, leave, settle, step_from, step_of}
use Rattle.machine.specs.Run.{IsRun, Continues}
use Rattle.well_formed.specs.WellFormed.{IsWord, IsFrame, IsWellFormed, IsConfiguration, IsOfFiles}
use Rattle.well_formed.specs.Keeping.{KeepsWords, IsResult, IsKept}
use Rattle.well_formed.proofs.Words.{pushed_all}
use Rattle.well_formed.proofs.Rows.{frame_of, instruction_kept}
use Rattle.well_formed.proofs.Entered.{entry_well_formed}

-- ---- frames that wait

frame_later : (w : World) (before now : Cells) (frame : Frame) → KeepsWords w before now → IsFrame w before frame → IsFrame w now frame
frame_later w before now frame keeps is =
    frame_of w now frame
    (All-weaker (IsWord w before) (IsWord w now) keeps frame.locals (All-from_recursion (IsWord w before) frame.locals is.locals))
    (All-weaker (IsWord w before) (IsWord w now) keeps frame.stack (All-from_recursion (IsWord w before) frame.stack is.stack))

frames_later : (w : World) (before now : Cells) (frames : List Frame) → KeepsWords w before now → AllByRecursion (IsFrame w before) frames → AllByRecursion (IsFrame w now) frames
frames_later w before now [] keeps all = tt
frames_later w before now (frame ∷ frames) keeps all = (frame_later w before now frame keeps all.0, frames_later w before now frames keeps all.1)

result_words : (w : World) (heap : Cells) (value : Option Value) (stack : List Value) → IsResult w heap value → All (IsWord w heap) stack → All (IsWord w heap) (with_result value stack)
result_words w heap None stack is all = all
result_words w heap (Some value) stack is all = pushed_all (IsWord w heap) tt value stack is all

-- the frame goes on with the result on its stack
record GoesBack (caller frame : Frame) (stack : List Value) : Type 0 where
  pc : ℕ
  now : frame ≡ with_words caller pc caller.locals stack

back_if : (caller frame : Frame) (stack : List Value) (s : Standing) (fits : Bool) → (if fits then Some (with_words caller (caller.pc + s.instr.len) caller.locals stack) else None) ≡ Some frame → GoesBack caller frame stack
back_if caller frame stack s true e = record {
  pc = caller.pc + s.instr.len;
  now = let same : with_words caller (caller.pc + s.instr.len) caller.locals stack ≡ frame = cc in sym same;
}
back_if caller frame stack s false e = absurd cc

back_at : (caller frame : Frame) (stack : List Value) (o : Option Standing) → option_and_then (resumed_by caller stack) o ≡ Some frame → GoesBack caller frame stack
back_at caller frame stack None e = absurd cc
back_at caller frame stack (Some s) e =
    back_if caller frame stack s (nat_le (length stack) s.code.max_stack && nat_lt (caller.pc + s.instr.len) (length s.code.bytes)) e

goes_back : (w : World) (caller frame : Frame) (value : Option Value) → resumed w caller value ≡ Some frame → GoesBack caller frame (with_result value caller.stack)
unfolding resumed
goes_back w caller frame value e = back_at caller frame (with_result value caller.stack) (standing_at w caller) e

resumed_frame : (w : World) (heap : Cells) (caller frame : Frame) (value : Option Value) → IsFrame w heap caller → IsResult w heap value → resumed w caller value ≡ Some frame → IsFrame w heap frame
resumed_frame w heap caller frame value is result e =
    let back : GoesBack caller frame (with_result value caller.stack) = goes_back w caller frame value e in
    let words = result_words w heap value caller.stack result (All-from_recursion (IsWord w heap) caller.stack is.stack) in
    subst (λ (f : Frame). IsFrame w heap f) (sym back.now)
    (frame_of w heap (with_words caller back.pc caller.locals (with_result value caller.stack)) (All-from_recursion (IsWord w heap) caller.locals is.locals) words)

-- ---- a step

returned : (w : World) (weight : ℕ) (before : State) (callers : List Frame) (o : Option Frame) → IsConfiguration w before → AllByRecursion (IsFrame w before.here.heap) callers
    → ((frame : Frame) → o ≡ Some frame → IsFrame w before.here.heap frame) → IsConfiguration w (return_to weight before callers o).1
returned w weight before callers None is waits each = record { here = is.here; callers = is.callers }
returned w weight before callers (Some frame) is waits each =
    record { here = record { frame = each frame refl; statics = is.here.statics }; callers = waits }

left : (w : World) (weight : ℕ) (before : State) (value : Option Value) (callers : List Frame) → IsConfiguration w before → IsResult w before.here.heap value → AllByRecursion (IsFrame w before.here.heap) callers
    → IsConfiguration w (leave w weight before value callers).1
left w weight before value [] is result waits = record { here = is.here; callers = is.callers }
left w weight before value (caller ∷ callers) is result waits =
    returned w weight before callers (resumed w caller value) is waits.1 (λ frame e. resumed_frame w before.here.heap caller frame value waits.0 result e)

went : (w : World) (before : State) (now : Here) → IsConfiguration w before → IsWellFormed w now × KeepsWords w before.here.heap now.heap → IsWellFormed w now × AllByRecursion (IsFrame w now.heap) before.callers
went w before now is kept = (kept.0, frames_later w before.here.heap now.heap before.callers kept.1 is.callers)

settled : (w : World) (weight : ℕ) (before : State) (outcome : Outcome) → IsConfiguration w before → IsKept w before.here outcome → IsConfiguration w (settle w weight before outcome).1
settled w weight before (Goes false now) is kept = (let both = went w before now is kept in record { here = both.0; callers = both.1 })
settled w weight before (Goes true now) is kept = (let both = went w before now is kept in record { here = both.0; callers = both.1 })
settled w weight before (Enters caller callee) is kept =
    record { here = record { frame = kept.1; statics = is.here.statics }; callers = (kept.0, is.callers) }
settled w weight before (Leaves value) is kept = left w weight before value before.callers is kept is.callers
settled w weight before (Throws what) is kept = record { here = is.here; callers = is.callers }
settled w weight before (Stops k) is kept = record { here = is.here; callers = is.callers }

running_step : (w : World) (weights : ℕ → ℕ) (before : State) → before.status ≡ statuses.Running
    → step_of w weights before ≡ settle w (weight_of weights (standing_at w before.here.frame)) before (outcome_of w before.here)
unfolding step_of
running_step w weights before runs = ap (λ (status : Status). step_from status w weights before) runs

-- a step keeps that all is well formed
pub step_kept : (w : World) (weights : ℕ → ℕ) (before now : State) → IsWellBuilt w → IsOfFiles w → IsConfiguration w before → Step w weights before now → IsConfiguration w now
step_kept w weights before now well files is step =
    let weight : ℕ = weight_of weights (standing_at w before.here.frame) in
    let made : (settle w weight before (outcome_of w before.here)).1 ≡ now = sym (step.made ∙ ap (λ (p : events.the_data × State). p.1) (running_step w weights before step.runs)) in
    subst (λ (s : State). IsConfiguration w s) made (settled w weight before (outcome_of w before.here) is (instruction_kept w before.here well files is.here))

-- ---- runs

later_kept : (w : World) (weights : ℕ → ℕ) (before : State) (later : List State) (moment : ℕ) (now : State) → IsWellBuilt w → IsOfFiles w → IsConfiguration w before → Continues w weights before later
    → slice_get (before ∷ later) moment ≡ Some now → IsConfiguration w now
later_kept w weights before later zero now well files is goes at =
    let same : before ≡ now = cc in
    subst (λ (s : State). IsConfiguration w s) same is
later_kept w weights before [] (suc moment) now well files is goes at = absurd (cc)
later_kept w weights before (next ∷ later) (suc moment) now well files is goes at =
    later_kept w weights next later moment now well files (step_kept w weights before next well files is goes.0) goes.1 at

pub run_well_formed : (w : World) (weights : ℕ → ℕ) (m : MemberId) (run : List State) (moment : ℕ) (now : State) → IsWellBuilt w → IsOfFiles w → IsRun w weights m run → slice_get run moment ≡ Some now → IsConfiguration w now
run_well_formed w weights m [] moment now well files runs at = absurd runs
run_well_formed w weights m (first ∷ later) moment now well files runs at =
    later_kept w weights first later moment now well files (entry_well_formed w m first runs.0) runs.1 at
