-- The moments of runs as nests of calls. An activation of a method is what it sees: its frame, the heap and the statics.
use Rattle.std.specs.Prelude.{◌≡◌, ℕ, ◌+◌, Bool, true, false, List, [], ◌∷◌, Option, Some, slice_get}
use Rattle.nested_runs.specs.Nest.{Machine, Nest}
use Rattle.world.specs.declared.member.MemberId.{MemberId}
use Rattle.class_hierarchy.specs.World.{World}
use Rattle.frames.specs.declared.value.Value.{Value}
use Rattle.frames.specs.declared.frame.Frame.{Frame}
use Rattle.frames.specs.declared.here.Here.{Here}
use Rattle.steps.specs.declared.configuration.State.{State}
use Rattle.steps.specs.declared.configuration.Status.{Status}
use Rattle.steps.specs.declared.configuration.Status.TheVariants as statuses
use Rattle.frames.specs.Heap.{Cells}
use Rattle.frames.specs.declared.failure.Raised.{Raised}
use Rattle.frames.specs.Outcome.{Goes, Throws, Enters, Leaves, in_frame}
use Rattle.frames.specs.Standing.{standing_at}
use Rattle.steps.specs.Step.{outcome_of, weight_of, resumed, kind_of}
use Rattle.machine.specs.Run.{IsRun, IsUnwrapped}

-- ---- the machine of activations

-- what an activation ends with: the method's result, and what it leaves
pub record End : Type 0 where
  pub value : Option Value
  pub heap : Cells
  pub statics : List (MemberId × Value)

-- what the instruction of an activation costs
abbrev pub cost_of : World → (ℕ → ℕ) → Here → ℕ
cost_of w weights a = weight_of weights (standing_at w a.frame)

-- an activation goes on; where unwrapped ones alone are asked for, with an exact result
abbrev pub MayGo : Bool → Bool → Type 0
MayGo unwrapped false = Unit {0}
MayGo true true = ⊥
MayGo false true = Unit {0}

pub record Moves (w : World) (weights : ℕ → ℕ) (unwrapped : Bool) (a : Here) (k : ℕ) (b : Here) : Type 0 where
  pub wraps : Bool
  pub goes : MayGo unwrapped wraps
  pub makes : outcome_of w a ≡ Goes wraps b
  pub costs : k ≡ cost_of w weights a

-- a call starts an activation of what it enters
pub record Starts (w : World) (weights : ℕ → ℕ) (a : Here) (k : ℕ) (b : Here) : Type 0 where
  pub caller : Frame
  pub callee : Frame
  pub makes : outcome_of w a ≡ Enters caller callee
  pub begins : b ≡ in_frame a callee
  pub costs : k ≡ cost_of w weights a

-- a return ends it
pub record Ends (w : World) (weights : ℕ → ℕ) (a : Here) (k : ℕ) (e : End) : Type 0 where
  pub value : Option Value
  pub makes : outcome_of w a ≡ Leaves value
  pub ends : e ≡ record { value = value; heap = a.heap; statics = a.statics }
  pub costs : k ≡ cost_of w weights a

-- the frame as which the activation waits, once it has called
abbrev pub WaitsAs : World → Here → Frame → Type 0
WaitsAs w a caller = (callee : Frame) × (outcome_of w a ≡ Enters caller callee)

-- what waits goes on with the result, and with what the callee left
pub record Resumes (w : World) (a : Here) (e : End) (b : Here) : Type 0 where
  pub caller : Frame
  pub frame : Frame
  pub waits : WaitsAs w a caller
  pub goes : resumed w caller e.value ≡ Some frame
  pub now : b ≡ record { frame = frame; heap = e.heap; statics = e.statics }

-- the activations of a world, with all steps or with unwrapped ones alone
abbrev pub activations : World → (ℕ → ℕ) → Bool → Machine Here End
activations w weights unwrapped = record {
  moves = λ a k b. Moves w weights unwrapped a k b;
  starts = λ a k b. Starts w weights a k b;
  ends = λ a k e. Ends w weights a k e;
  resumes = λ a e b. Resumes w a e b;
}

-- ---- moments

-- each caller is the frame as which its activation waits
abbrev pub AreWaiting : World → List Here → List Frame → Type 0
AreWaiting w [] [] = Unit {0}
AreWaiting w [] (caller ∷ callers) = ⊥
AreWaiting w (a ∷ waiting) [] = ⊥
AreWaiting w (a ∷ waiting) (caller ∷ callers) = WaitsAs w a caller × AreWaiting w waiting callers

-- What is spent beside the nest's cost: a last step that returned or threw costs its instruction, and one that
-- stopped nothing.
abbrev pub IsSpent : World → (ℕ → ℕ) → List Here → ℕ → State → Status → Type 0
IsSpent w weights waiting cost now statuses.Running = now.spent ≡ cost
IsSpent w weights waiting cost now statuses.Ended =
    (waiting ≡ []) × ((value : Option Value) × (outcome_of w now.here ≡ Leaves value)) × (now.spent ≡ cost + cost_of w weights now.here)
IsSpent w weights waiting cost now (statuses.Thrown k) =
    ((what : Raised) × (outcome_of w now.here ≡ Throws what) × (k ≡ kind_of what)) × (now.spent ≡ cost + cost_of w weights now.here)
IsSpent w weights waiting cost now (statuses.Stopped k) = now.spent ≡ cost

-- A configuration that a run came to: the nest of its open activations. Those that wait stand as they stood before
-- their calls.
pub record Moment (w : World) (weights : ℕ → ℕ) (unwrapped : Bool) (first now : State) : Type 0 where
  pub waiting : List Here
  pub waits : AreWaiting w waiting now.callers
  pub cost : ℕ
  pub nest : Nest (activations w weights unwrapped) first.here (now.here ∷ waiting) cost
  pub spent : IsSpent w weights waiting cost now now.status

-- the moments that count: all, or unwrapped ones alone
abbrev pub IsCounted : World → (ℕ → ℕ) → Bool → List State → ℕ → Type 0
IsCounted w weights false run moment = Unit {0}
IsCounted w weights true run moment = IsUnwrapped w weights run moment

-- each moment of each run is the nest of what is open since its entry
abbrev pub MomentsAreNests : Type 0
MomentsAreNests =
    (w : World) (weights : ℕ → ℕ) (unwrapped : Bool) (m : MemberId) (first : State) (later : List State)
    → IsRun w weights m (first ∷ later) → (moment : ℕ) (now : State) → slice_get (first ∷ later) moment ≡ Some now
    → IsCounted w weights unwrapped (first ∷ later) moment → Moment w weights unwrapped first now
