-- What an instruction on objects and arrays leaves (JVMS 6.5).
use Rattle.std.specs.Prelude.{ℕ, false, List, Option, Some, None, Result, Ok, Err}
use Rattle.world.specs.declared.member.MemberId.{MemberId}
use Rattle.frames.specs.declared.value.Value.{Value}
use Rattle.frames.specs.declared.here.Here.{Here}
use Rattle.frames.specs.declared.failure.Failure.{Failure}
use Rattle.frames.specs.declared.failure.Failure.TheVariants.{Stops}
use Rattle.frames.specs.declared.failure.Stop.TheVariants.{Shape}
use Rattle.frames.specs.Words.{pushed}
use Rattle.frames.specs.Heap.{Cells}
use Rattle.frames.specs.Standing.{Standing, next_pc}
use Rattle.frames.specs.Outcome.{Outcome, failed, goes_on, with_words}

-- the operand stack, the heap and the statics behind it
pub record After : Type 0 where
  pub stack : List Value
  pub heap : Cells
  pub statics : List (MemberId × Value)

-- a value was read
abbrev pub read : Here → Value → List Value → After
read here value rest = record { stack = pushed value rest; heap = here.heap; statics = here.statics }

abbrev pub reads : Here → List Value → Result Value Failure → Result After Failure
reads here rest (Err failure) = Err failure
reads here rest (Ok value) = Ok (read here value rest)

-- the heap was changed
abbrev pub heap_changed : Here → List Value → Cells → After
heap_changed here rest heap = record { stack = rest; heap = heap; statics = here.statics }

-- the statics were changed
abbrev pub statics_changed : Here → List Value → List (MemberId × Value) → After
statics_changed here rest statics = record { stack = rest; heap = here.heap; statics = statics }

-- the same, with the frame at a place
abbrev pub left_at : ℕ → Here → After → Here
left_at pc here a = record { frame = with_words here.frame pc here.frame.locals a.stack; heap = a.heap; statics = a.statics }

-- the frame goes on behind the instruction
abbrev pub left : Standing → Here → After → Here
left s here a = left_at (next_pc s here) here a

-- the outcome of such an instruction
abbrev pub does : Standing → Here → Result After Failure → Outcome
does s here (Err failure) = failed failure
does s here (Ok a) = goes_on s.code false (left s here a)

-- what isn't there doesn't fit
abbrev pub or_misfit : {A : Type 0} → Option A → Result A Failure
or_misfit None = Err (Stops Shape)
or_misfit (Some a) = Ok a

abbrev pub misfit : {A : Type 0} → Result A Failure
misfit = Err (Stops Shape)
