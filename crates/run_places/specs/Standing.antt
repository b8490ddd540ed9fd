-- Where the frames of runs stand: at instructions to which successors lead from the beginning of their method's code
-- (JVMS 2.11, 4.7.3).
use Rattle.std.specs.Prelude.{◌≡◌, ℕ, ◌<◌, Bool, List, length, Some, Ok, Contains, slice_get}
use Rattle.std.specs.List.{AllByRecursion}
use Rattle.class_pool.specs.Pool.{member_at}
use Rattle.class_reader.specs.declared.class.Code.{Code}
use Rattle.op_table.specs.Actions.{action_of}
use Rattle.op_table.specs.declared.acts.Action.TheVariants as acts
use Rattle.op_table.specs.declared.acts.Call.{Call}
use Rattle.world.specs.declared.member.MemberId.{MemberId}
use Rattle.class_hierarchy.specs.World.{World, class_at}
use Rattle.class_hierarchy.specs.Building.{IsWellBuilt}
use Rattle.linking.specs.Calls.{called_by}
use Rattle.linking.specs.Methods.{code_at}
use Rattle.code_blocks.specs.declared.instruction.Placed.{Placed}
use Rattle.code_blocks.specs.Placing.{placed}
use Rattle.code_blocks.specs.Successors.{successors_of, instructions_of}
use Rattle.code_blocks.specs.Blocks.{IsReached}
use Rattle.code_blocks.specs.Laws.{IsSound}
use Rattle.frames.specs.declared.frame.Frame.{Frame}
use Rattle.frames.specs.declared.here.Here.{Here}
use Rattle.frames.specs.Outcome.{Goes}
use Rattle.frames.specs.Standing.{Standing, standing_at}
use Rattle.steps.specs.declared.configuration.State.{State}
use Rattle.steps.specs.Step.{Step, outcome_of}
use Rattle.machine.specs.Run.{IsRun}
use Rattle.well_formed.specs.WellFormed.{IsConfiguration, IsOfFiles}

-- ---- methods that call one another

-- what instructions of the method's code can call is listed
abbrev pub CallsWithin : World → List MemberId → MemberId → Placed → Type 0
CallsWithin w methods m p =
    (call : Call) (i : ℕ) → action_of p.instr ≡ acts.Call call i
    → (ts : List MemberId) × (called_by w m.class call (member_at (class_at w m.class).pool i) ≡ Ok ts) × ((t : MemberId) → Contains ts t → Contains methods t)

-- Methods whose code has instructions alone, of which each leads to others, and which call none but one another.
pub record IsClosed (w : World) (methods : List MemberId) : Type 0 where
  pub sound : (m : MemberId) (code : Code) → Contains methods m → code_at w m ≡ Some code → IsSound code.bytes
  pub calls : (m : MemberId) (code : Code) (p : Placed) → Contains methods m → code_at w m ≡ Some code → Contains (placed code.bytes) p → CallsWithin w methods m p

-- ---- frames

-- The frame is one of a listed method, at an instruction to which successors lead from the code's beginning.
pub record Stands (w : World) (methods : List MemberId) (frame : Frame) : Type 0 where
  pub listed : Contains methods frame.method
  pub code : Code
  pub has_code : code_at w frame.method ≡ Some code
  pub place : Placed
  pub placed : Contains (placed code.bytes) place
  pub at : place.pc ≡ frame.pc
  pub reached : IsReached (instructions_of code.bytes) frame.pc

-- a frame that waits stands at a call
pub record Waits (w : World) (methods : List MemberId) (frame : Frame) : Type 0 where
  pub stands : Stands w methods frame
  pub at_call : (s : Standing) → standing_at w frame ≡ Some s → (call : Call) × (i : ℕ) × (action_of s.instr ≡ acts.Call call i)

-- all frames of a configuration
pub record AllStand (w : World) (methods : List MemberId) (state : State) : Type 0 where
  pub here : Stands w methods state.here.frame
  pub callers : AllByRecursion (Waits w methods) state.callers

-- ---- the laws

-- the place of the instruction at which a frame stands
abbrev pub place_of : Frame → Standing → Placed
place_of frame s = record { pc = frame.pc; instr = s.instr }

-- where an instruction goes on in its frame, it goes to one of its successors
abbrev pub OutcomesLeadToSuccessors : Type 0
OutcomesLeadToSuccessors =
    (w : World) (s : Standing) (at now : Here) (wraps : Bool)
    → standing_at w at.frame ≡ Some s → outcome_of w at ≡ Goes wraps now → Contains (successors_of s.code.bytes (place_of at.frame s)) now.frame.pc

-- the method's code isn't empty (JVMS 4.7.3)
abbrev pub HasInstructions : World → MemberId → Type 0
HasInstructions w m = (code : Code) → code_at w m ≡ Some code → 0 < length code.bytes

-- a step keeps that all frames stand so
abbrev pub StepsStand : Type 0
StepsStand =
    (w : World) (methods : List MemberId) (weights : ℕ → ℕ) (before now : State)
    → IsWellBuilt w → IsOfFiles w → IsClosed w methods → IsConfiguration w before → AllStand w methods before → Step w weights before now → AllStand w methods now

-- in each configuration of each run of a listed method all frames stand so
abbrev pub RunsStand : Type 0
RunsStand =
    (w : World) (methods : List MemberId) (weights : ℕ → ℕ) (m : MemberId) (run : List State) (moment : ℕ) (now : State)
    → IsWellBuilt w → IsOfFiles w → IsClosed w methods → Contains methods m → HasInstructions w m
    → IsRun w weights m run → slice_get run moment ≡ Some now → AllStand w methods now
