-- What instructions, calls and loops leave of the locals of a frame (JVMS 2.6.1, 6.5).
use Rattle.std.specs.Prelude.{◌≡◌, ℕ, Bool, List, Option, Some, slice_get, Contains}
use Rattle.op_table.specs.Actions.{action_of}
use Rattle.class_hierarchy.specs.World.{World}
use Rattle.code_blocks.specs.declared.instruction.Instruction.{Instruction}
use Rattle.method_body.specs.Bodies.{MethodBody}
use Rattle.loop_cut.specs.declared.found.CodeLoop.{CodeLoop}
use Rattle.loop_cut.specs.CodeLoops.{StandsIn, IsCut}
use Rattle.loop_cut.specs.Effects.{stored_by}
use Rattle.frames.specs.declared.value.Value.{Value}
use Rattle.frames.specs.declared.frame.Frame.{Frame}
use Rattle.frames.specs.declared.here.Here.{Here}
use Rattle.frames.specs.Outcome.{Goes, Enters}
use Rattle.frames.specs.Standing.{Standing, standing_at}
use Rattle.steps.specs.Step.{outcome_of, resumed}

-- ---- one frame that goes on

-- by an instruction of its own, or behind a call that has come back
pub data GoesOn (w : World) (at now : Here) : Type 0 where
  moves : {wraps : Bool} → outcome_of w at ≡ Goes wraps now → GoesOn w at now
  returns :
      {caller callee : Frame} (result : Option Value)
      → outcome_of w at ≡ Enters caller callee → resumed w caller result ≡ Some now.frame → GoesOn w at now

-- the frame stands at an instruction of the body's blocks that begin at these places
pub record IsAt (w : World) (body : MethodBody) (places : List ℕ) (at : Here) : Type 0 where
  pub standing : Standing
  pub stands : standing_at w at.frame ≡ Some standing
  pub number : ℕ
  pub instruction : Instruction
  pub held : StandsIn body places number instruction
  pub same : instruction.instr ≡ standing.instr

-- from one to the other, each time but the last at an instruction of these blocks
pub data Stays (w : World) (body : MethodBody) (places : List ℕ) : Here → Here → Type 0 where
  ends : {at : Here} → Stays w body places at at
  goes : {at next now : Here} → IsAt w body places at → GoesOn w at next → Stays w body places next now → Stays w body places at now

-- ---- the laws

-- where an instruction goes on in its frame, it leaves each local that it doesn't store to
abbrev pub OutcomesKeepLocals : Type 0
OutcomesKeepLocals =
    (w : World) (s : Standing) (at now : Here) (wraps : Bool) (n : ℕ)
    → standing_at w at.frame ≡ Some s → outcome_of w at ≡ Goes wraps now → (Contains (stored_by (action_of s.instr)) n → ⊥)
    → slice_get now.frame.locals n ≡ slice_get at.frame.locals n

-- behind a call the frame has the locals that it had before
abbrev pub CallsKeepLocals : Type 0
CallsKeepLocals =
    (w : World) (at : Here) (caller callee frame : Frame) (result : Option Value)
    → outcome_of w at ≡ Enters caller callee → resumed w caller result ≡ Some frame → frame.locals ≡ at.frame.locals

-- while a frame stays in the blocks of a loop, the locals that the loop doesn't change keep their words
abbrev pub LoopsKeepLocals : Type 0
LoopsKeepLocals =
    (w : World) (body : MethodBody) (heights : List ℕ) (g : List (List ℕ)) (l : CodeLoop) (at now : Here) (n : ℕ)
    → IsCut body heights g l → Stays w body l.blocks at now → (Contains l.changed n → ⊥)
    → slice_get now.frame.locals n ≡ slice_get at.frame.locals n
