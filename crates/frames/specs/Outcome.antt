-- What comes of an instruction (JVMS 2.11).
use Rattle.std.specs.Prelude.{◌≡◌, ℕ, ◌&&◌, nat_le, nat_lt, Bool, true, false, List, length, Option, if◌then◌else◌}
use Rattle.class_reader.specs.declared.class.Code.{Code}
use Rattle.op_table.specs.declared.construct.Construct.{Construct}
use Rattle.op_table.specs.declared.construct.Construct.TheVariants as constructs
use Rattle.frames.specs.declared.value.Value.{Value}
use Rattle.frames.specs.declared.frame.Frame.{Frame}
use Rattle.frames.specs.declared.here.Here.{Here}
use Rattle.frames.specs.declared.failure.Failure.{Failure}
use Rattle.frames.specs.declared.failure.Failure.TheVariants as failures
use Rattle.frames.specs.declared.failure.Going.{Going}
use Rattle.frames.specs.declared.failure.Going.TheVariants as goings
use Rattle.frames.specs.declared.failure.Raised.{Raised}
use Rattle.frames.specs.declared.failure.Stop.{Stop}
use Rattle.frames.specs.declared.failure.Stop.TheVariants as stops
use Rattle.frames.specs.Heap.{Cells}
use Rattle.frames.specs.Standing.{Standing, next_pc}

-- The frame stays the running one: whether the exact result didn't fit, and the frame after it, with its pc, the heap
-- and the statics. Or the frame waits, at its call, and another one is entered. Or it is left, with the method's
-- result. What is thrown and what stops leaves all as it stood.
pub data Outcome : Type 0 where
  Goes : Bool → Here → Outcome
  Enters : Frame → Frame → Outcome
  Leaves : Option Value → Outcome
  Throws : Raised → Outcome
  Stops : Stop → Outcome

-- ---- failures

abbrev pub failed : Failure → Outcome
failed (failures.Throws raised) = Throws raised
failed (failures.Stops kind) = Stops kind

-- Where this stands against an instruction: floats, doubles, static references, native methods and methods of arrays
-- aren't run, and anything else can't be linked.
abbrev pub stop_of : Construct → Stop
stop_of constructs.Float = stops.Support
stop_of constructs.StaticRef = stops.Support
stop_of constructs.Native = stops.Support
stop_of constructs.ArrayMethod = stops.Support
stop_of construct = stops.Link

-- ---- going on

abbrev pub with_words : Frame → ℕ → List Value → List Value → Frame
with_words frame pc locals stack = record { method = frame.method; pc = pc; locals = locals; stack = stack }

abbrev pub in_frame : Here → Frame → Here
in_frame here frame = record { frame = frame; heap = here.heap; statics = here.statics }

-- the frame with other words, and another heap, at this place
abbrev pub placed_at : ℕ → Here → List Value → List Value → Cells → Here
placed_at pc here locals stack heap = record { frame = with_words here.frame pc locals stack; heap = heap; statics = here.statics }

-- the same behind the instruction
abbrev pub moved : Standing → Here → List Value → List Value → Cells → Here
moved s here locals stack heap = placed_at (next_pc s here) here locals stack heap

-- the operand stack holds the words, and an instruction can stand at the place (JVMS 4.7.3)
abbrev pub has_room : Code → ℕ → List Value → Bool
has_room code pc stack = nat_le (length stack) code.max_stack && nat_lt pc (length code.bytes)

-- the run goes on there, where there is room
abbrev pub goes_on : Code → Bool → Here → Outcome
goes_on code wraps now = if has_room code now.frame.pc now.frame.stack then Goes wraps now else Stops stops.Shape

-- an instruction that stays in its frame went on to this, or it failed and all is as it was
abbrev pub HasGone : Going → Here → Here → Outcome → Type 0
HasGone goings.Goes before now outcome = outcome ≡ Goes false now
HasGone goings.Wraps before now outcome = outcome ≡ Goes true now
HasGone (goings.Fails failure) before now outcome = (outcome ≡ failed failure) × (now ≡ before)
