-- One step of the machine (JVMS 2.11).
use Rattle.std.specs.Prelude.{◌≡◌, ℕ, ◌+◌, List, [], ◌∷◌, Option, Some, None, option_and_then, true, false, if◌then◌else◌}
use Rattle.op_table.specs.Actions.{action_of}
use Rattle.op_table.specs.declared.acts.Action.{Action}
use Rattle.op_table.specs.declared.acts.Action.TheVariants as acts
use Rattle.class_hierarchy.specs.World.{World}
use Rattle.frames.specs.declared.value.Value.{Value}
use Rattle.frames.specs.declared.frame.Frame.{Frame}
use Rattle.frames.specs.declared.here.Here.{Here}
use Rattle.frames.specs.declared.failure.Raised.{Raised}
use Rattle.frames.specs.declared.failure.Raised.TheVariants as raised
use Rattle.frames.specs.declared.failure.Stop.TheVariants as stops
use Rattle.frames.specs.Words.{pushed}
use Rattle.frames.specs.Standing.{Standing, standing_at}
use Rattle.frames.specs.Outcome.{Outcome, Goes, Enters, Leaves, Throws, Stops, with_words, in_frame, has_room}
use Rattle.word_steps.specs.Computing.{made, words_after}
use Rattle.word_steps.specs.Branches.{jumps}
use Rattle.object_steps.specs.Objects.{new_object}
use Rattle.object_steps.specs.After.{does}
use Rattle.object_steps.specs.Arrays.{array_after}
use Rattle.object_steps.specs.Fields.{field_after}
use Rattle.object_steps.specs.Casts.{cast_after}
use Rattle.steps.specs.declared.configuration.State.{State}
use Rattle.steps.specs.declared.configuration.Status.{Status}
use Rattle.steps.specs.declared.configuration.Status.TheVariants as statuses
use Rattle.steps.specs.declared.configuration.Event.{Event}
use Rattle.steps.specs.declared.configuration.Event.TheVariants as events
use Rattle.steps.specs.declared.configuration.Thrown.{Thrown}
use Rattle.steps.specs.declared.configuration.Thrown.TheVariants as thrown
use Rattle.steps.specs.Calling.{call, return_value, return_nothing, throw_top}

-- ---- what an instruction makes of what it sees

-- an instruction behind which the code goes on
abbrev pub acts_behind : World → Standing → Here → Action → Outcome
acts_behind w s here (acts.LoadElement e) = does s here (array_after w s here (acts.LoadElement e))
acts_behind w s here (acts.StoreElement e) = does s here (array_after w s here (acts.StoreElement e))
acts_behind w s here acts.ArrayLength = does s here (array_after w s here acts.ArrayLength)
acts_behind w s here (acts.NewArray kind) = does s here (array_after w s here (acts.NewArray kind))
acts_behind w s here (acts.NewReferenceArray i) = does s here (array_after w s here (acts.NewReferenceArray i))
acts_behind w s here (acts.GetField i) = does s here (field_after w s here (acts.GetField i))
acts_behind w s here (acts.PutField i) = does s here (field_after w s here (acts.PutField i))
acts_behind w s here (acts.GetStatic i) = does s here (field_after w s here (acts.GetStatic i))
acts_behind w s here (acts.PutStatic i) = does s here (field_after w s here (acts.PutStatic i))
acts_behind w s here (acts.CheckCast i) = does s here (cast_after w s here (acts.CheckCast i))
acts_behind w s here (acts.InstanceOf i) = does s here (cast_after w s here (acts.InstanceOf i))
acts_behind w s here action = made s here (words_after s.class.pool action here.frame.locals here.frame.stack)

abbrev pub acts_on : World → Standing → Here → Action → Outcome
acts_on w s here (acts.IfZero test d) = jumps s here (acts.IfZero test d)
acts_on w s here (acts.IfInts test d) = jumps s here (acts.IfInts test d)
acts_on w s here (acts.IfSame same d) = jumps s here (acts.IfSame same d)
acts_on w s here (acts.IfNull null d) = jumps s here (acts.IfNull null d)
acts_on w s here (acts.Goto d) = jumps s here (acts.Goto d)
acts_on w s here (acts.Switch default low count pairs) = jumps s here (acts.Switch default low count pairs)
acts_on w s here (acts.Call kind i) = call w s here kind i
acts_on w s here (acts.New i) = new_object w s here i
acts_on w s here (acts.Return kind) = return_value w s here kind
acts_on w s here acts.ReturnNothing = return_nothing s
acts_on w s here acts.Throw = throw_top here.frame.stack
acts_on w s here action = acts_behind w s here action

-- where no instruction stands the run stops
abbrev pub outcome_on : World → Here → Option Standing → Outcome
outcome_on w here None = Stops stops.Support
outcome_on w here (Some s) = acts_on w s here (action_of s.instr)

unfoldable pub outcome_of : World → Here → Outcome
outcome_of w here = outcome_on w here (standing_at w here.frame)

-- ---- what a step makes of the configuration

-- what the step costs unless it stops: one opcode, also behind `wide`
abbrev pub weight_of : (ℕ → ℕ) → Option Standing → ℕ
weight_of weights None = 0
weight_of weights (Some s) = weights s.instr.op

-- the operand stack with a result
abbrev pub with_result : Option Value → List Value → List Value
with_result None stack = stack
with_result (Some value) stack = pushed value stack

-- a frame that waited, behind its call and with the result, where there is room
abbrev pub resumed_by : Frame → List Value → Standing → Option Frame
resumed_by caller stack s =
    if has_room s.code (caller.pc + s.instr.len) stack
    then Some (with_words caller (caller.pc + s.instr.len) caller.locals stack)
    else None

unfoldable pub resumed : World → Frame → Option Value → Option Frame
resumed w caller value = option_and_then (resumed_by caller (with_result value caller.stack)) (standing_at w caller)

abbrev pub running : Here → List Frame → ℕ → State
running here callers spent = record { here = here; callers = callers; spent = spent; status = statuses.Running }

-- the configuration with another status, when so much is spent
abbrev pub over : State → ℕ → Status → State
over before spent status = record { here = before.here; callers = before.callers; spent = spent; status = status }

-- the frame that waited goes on
abbrev pub return_to : ℕ → State → List Frame → Option Frame → Event × State
return_to weight before callers None = (events.Stopped stops.Shape, over before before.spent (statuses.Stopped stops.Shape))
return_to weight before callers (Some frame) = (events.Went, running (in_frame before.here frame) callers (before.spent + weight))

-- without a frame that waits the run has ended, and the frame stands as it stood
abbrev pub leave : World → ℕ → State → Option Value → List Frame → Event × State
leave w weight before value [] = (events.Ended, over before (before.spent + weight) statuses.Ended)
leave w weight before value (caller ∷ callers) = return_to weight before callers (resumed w caller value)

-- what kind of exception it is; of an object that was given nothing more is told
abbrev pub kind_of : Raised → Thrown
kind_of raised.NullPointer = thrown.NullPointer
kind_of raised.ArrayIndex = thrown.ArrayIndex
kind_of raised.NegativeSize = thrown.NegativeSize
kind_of raised.ArrayStore = thrown.ArrayStore
kind_of raised.ClassCast = thrown.ClassCast
kind_of raised.Arithmetic = thrown.Arithmetic
kind_of (raised.Given r) = thrown.Given

-- a step that stops changes the status alone
abbrev pub settle : World → ℕ → State → Outcome → Event × State
settle w weight before (Goes false here) = (events.Went, running here before.callers (before.spent + weight))
settle w weight before (Goes true here) = (events.Wrapped, running here before.callers (before.spent + weight))
settle w weight before (Enters caller callee) = (events.Went, running (in_frame before.here callee) (caller ∷ before.callers) (before.spent + weight))
settle w weight before (Leaves value) = leave w weight before value before.callers
settle w weight before (Throws what) = (events.Thrown (kind_of what), over before (before.spent + weight) (statuses.Thrown (kind_of what)))
settle w weight before (Stops k) = (events.Stopped k, over before before.spent (statuses.Stopped k))

-- a running configuration makes a step; another stays, and its last event is told again
abbrev pub step_from : Status → World → (ℕ → ℕ) → State → Event × State
step_from statuses.Running w weights before =
    settle w (weight_of weights (standing_at w before.here.frame)) before (outcome_of w before.here)
step_from statuses.Ended w weights before = (events.Ended, before)
step_from (statuses.Thrown k) w weights before = (events.Thrown k, before)
step_from (statuses.Stopped k) w weights before = (events.Stopped k, before)

-- the event of a step and the configuration after it, where each opcode has its weight
unfoldable pub step_of : World → (ℕ → ℕ) → State → Event × State
step_of w weights before = step_from before.status w weights before

-- one step leads from a running configuration to the next
pub record Step (w : World) (weights : ℕ → ℕ) (before now : State) : Type 0 where
  pub runs : before.status ≡ statuses.Running
  pub made : now ≡ (step_of w weights before).1
