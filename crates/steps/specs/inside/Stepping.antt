-- What is known of a step before it is made, and how it ends.
use Rattle.std.specs.Prelude.{◌≡◌, ◌≤◌, ℕ, ◌+◌, ◌&&◌, Bool, false, List, [], ◌∷◌, length, drop, Option, Some, None, Result, Ok, Err, if◌then◌else◌}
use Rattle.class_reader.specs.declared.class.Code.{Code}
use Rattle.op_table.specs.declared.construct.Construct.{Construct}
use Rattle.world.specs.declared.member.MemberId.{MemberId}
use Rattle.class_hierarchy.specs.World.{World, class_at}
use Rattle.world.specs.Selection.{method_of}
use Rattle.linking.specs.declared.fault.LinkFault.{LinkFault}
use Rattle.linking.specs.declared.fault.LinkFault.TheVariants as link_faults
use Rattle.frames.specs.declared.value.Value.{Value}
use Rattle.frames.specs.declared.value.Value.TheVariants.{Ref}
use Rattle.frames.specs.declared.heap.Cell.{Cell}
use Rattle.frames.specs.declared.frame.Frame.{Frame}
use Rattle.frames.specs.declared.here.Here.{Here}
use Rattle.steps.specs.declared.configuration.State.{State}
use Rattle.frames.specs.declared.failure.Stop.TheVariants as stops
use Rattle.steps.specs.declared.configuration.Status.TheVariants as statuses
use Rattle.steps.specs.declared.configuration.Event.{Event}
use Rattle.steps.specs.declared.configuration.Event.TheVariants as events
use Rattle.frames.specs.declared.failure.Failure.{Failure}
use Rattle.frames.specs.declared.failure.Failure.TheVariants as failures
use Rattle.frames.specs.declared.failure.Going.{Going}
use Rattle.frames.specs.declared.failure.Going.TheVariants as goings
use Rattle.steps.specs.declared.halt.Halt.{Halt}
use Rattle.steps.specs.declared.halt.Halt.TheVariants as halts
use Rattle.steps.specs.declared.returning.Back.{Back}
use Rattle.steps.specs.declared.returning.Back.TheVariants as backs
use Rattle.steps.specs.declared.calling.Entered.{Entered}
use Rattle.frames.specs.Words.{Popped, is_reference}
use Rattle.frames.specs.Heap.{Cells, free_number, with_cell}
use Rattle.frames.specs.Outcome.{Outcome, Enters, Leaves, failed, stop_of, in_frame, with_words}
use Rattle.frames.specs.Standing.{Standing, next_pc}
use Rattle.linking.specs.Methods.{code_at}
use Rattle.steps.specs.Calling.{are_arguments, has_locals, new_frame, waiting, is_outside}
use Rattle.steps.specs.Step.{kind_of, over, resumed, running, with_result}

-- ---- returns

-- a frame is left with a result, or it isn't
abbrev pub left_by : Result (Option Value) Failure → Outcome
left_by (Ok value) = Leaves value
left_by (Err failure) = failed failure

abbrev pub back_in : Option Frame → Back
back_in None = backs.Misfits
back_in (Some frame) = backs.Resumes frame.pc

-- what a return of a value leads to
abbrev pub back_of : World → Option Value → List Frame → Back
back_of w value [] = backs.Ends
back_of w value (caller ∷ callers) = back_in (resumed w caller value)

-- the frame that waited last is the running one, at this place and with the result, and the others wait
abbrev pub IsBack : Option Value → ℕ → List Frame → Frame → List Frame → Type 0
IsBack value pc [] frame waiting = ⊥
IsBack value pc (caller ∷ callers) frame waiting =
    (frame ≡ with_words caller pc caller.locals (with_result value caller.stack)) × (waiting ≡ callers)

-- ---- calls

-- what a receiver's class selects is this, or nothing, which stops the run; memory aside
abbrev pub Links : Result MemberId Halt → Option MemberId → Type 0
Links (Ok m) meant = meant ≡ Some m
Links (Err halts.Memory) meant = Unit {0}
Links (Err (halts.Fails failure)) meant = (meant ≡ None) × (failure ≡ failures.Stops stops.Link)

-- what a call names is this, or something stands against it, which stops the run; memory aside
abbrev pub IsLinked : {A : Type 0} → Result A Halt → Result A Construct → Type 0
IsLinked (Ok x) named = named ≡ Ok x
IsLinked (Err halts.Memory) named = Unit {0}
IsLinked (Err (halts.Fails failure)) named = (construct : Construct) × (named ≡ Err construct) × (failure ≡ failures.Stops (stop_of construct))

-- a fault of linking stops the run; memory aside
abbrev pub IsUnlinked : Halt → LinkFault → Type 0
IsUnlinked halts.Memory fault = fault ≡ link_faults.Memory
IsUnlinked (halts.Fails failure) fault = (construct : Construct) × (fault ≡ link_faults.Against construct) × (failure ≡ failures.Stops (stop_of construct))

-- the method that runs, or why none does; memory aside
abbrev pub Selects : Result MemberId Halt → Result MemberId Failure → Type 0
Selects (Ok m) target = target ≡ Ok m
Selects (Err halts.Memory) target = Unit {0}
Selects (Err (halts.Fails failure)) target = target ≡ Err failure

-- the frame that is entered, and how many words it takes over, or why none is; memory aside
abbrev pub HasEntered : Result Entered Halt → Here → Outcome → Type 0
HasEntered (Ok entered) here outcome =
    (outcome ≡ Enters (waiting here (drop entered.words here.frame.stack)) entered.frame) × (entered.words ≤ length here.frame.stack)
HasEntered (Err halts.Memory) here outcome = Unit {0}
HasEntered (Err (halts.Fails failure)) here outcome = outcome ≡ failed failure

-- the words behind a first value that passes
abbrev pub behind_value : (Value → Bool) → Option Popped → Option (List Value)
behind_value passes None = None
behind_value passes (Some p) = if passes p.value then Some p.rest else None

-- a reference, and the values of the types
abbrev pub are_received : World → Cells → List (List ℕ) → List Value → Bool
are_received w heap types [] = false
are_received w heap types (word ∷ words) = is_reference word && are_arguments w heap types words

-- what a call answers is this, memory aside
abbrev pub Gives : {A : Type 0} → Result A Halt → Result A Failure → Type 0
Gives (Ok x) answer = answer ≡ Ok x
Gives (Err halts.Memory) answer = Unit {0}
Gives (Err (halts.Fails failure)) answer = answer ≡ Err failure

-- the frame of a method that takes over words, or why there is none
abbrev pub frame_in : Bool → Option Code → MemberId → List Value → Result Frame Failure
frame_in outside None m words = Err (failures.Stops (if outside then stops.Support else stops.Link))
frame_in outside (Some code) m words = if has_locals code words then Ok (new_frame m code words) else Err (failures.Stops stops.Shape)

abbrev pub frame_of : World → MemberId → List Value → Result Frame Failure
frame_of w m words = frame_in (is_outside (method_of w m).flags) (code_at w m) m words

-- ---- the configuration

-- after what fails in the running frame
abbrev pub failed_by : Failure → ℕ → State → Event × State
failed_by (failures.Throws raised) cost s = (events.Thrown (kind_of raised), over s (s.spent + cost) (statuses.Thrown (kind_of raised)))
failed_by (failures.Stops k) cost s = (events.Stopped k, over s s.spent (statuses.Stopped k))

-- after what was made in the running frame
abbrev pub gone_to : Going → ℕ → State → Event × State
gone_to goings.Goes cost s = (events.Went, running s.here s.callers (s.spent + cost))
gone_to goings.Wraps cost s = (events.Wrapped, running s.here s.callers (s.spent + cost))
gone_to (goings.Fails failure) cost s = failed_by failure cost s

-- after the return of the first method
abbrev pub ended_at : ℕ → State → Event × State
ended_at cost s = (events.Ended, over s (s.spent + cost) statuses.Ended)

-- after a call
abbrev pub entered_by : Entered → ℕ → State → Event × State
entered_by entered cost s = (
  events.Went,
  running (in_frame s.here entered.frame) (waiting s.here (drop entered.words s.here.frame.stack) ∷ s.callers) (s.spent + cost),
)
