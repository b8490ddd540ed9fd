-- What instructions, steps and runs keep.
use Rattle.std.specs.Prelude.{◌≡◌, ℕ, List, Option, Some, None, slice_get}
use Rattle.world.specs.declared.member.MemberId.{MemberId}
use Rattle.class_hierarchy.specs.World.{World}
use Rattle.class_hierarchy.specs.Building.{IsWellBuilt}
use Rattle.frames.specs.declared.value.Value.{Value}
use Rattle.frames.specs.declared.value.Value.TheVariants.{Ref}
use Rattle.frames.specs.declared.here.Here.{Here}
use Rattle.frames.specs.declared.failure.Raised.{Raised}
use Rattle.frames.specs.declared.failure.Raised.TheVariants as raised
use Rattle.frames.specs.Heap.{Cells}
use Rattle.frames.specs.Outcome.{Outcome, Goes, Enters, Leaves, Throws, Stops}
use Rattle.steps.specs.declared.configuration.State.{State}
use Rattle.steps.specs.Step.{Step, outcome_of}
use Rattle.entries.specs.Entry.{IsEntry}
use Rattle.machine.specs.Run.{IsRun}
use Rattle.well_formed.specs.WellFormed.{IsWord, IsFrame, IsWellFormed, IsConfiguration, IsOfFiles}

-- what refers to what is held still does, and so do the frames that wait
abbrev pub KeepsWords : World → Cells → Cells → Type 0
KeepsWords w before now = (value : Value) → IsWord w before value → IsWord w now value

-- a result, where there is one
abbrev pub IsResult : World → Cells → Option Value → Type 0
IsResult w heap None = Unit {0}
IsResult w heap (Some value) = IsWord w heap value

-- a reference that is thrown
abbrev pub IsRaised : World → Cells → Raised → Type 0
IsRaised w heap (raised.Given r) = IsWord w heap (Ref r)
IsRaised w heap what = Unit {0}

-- what an instruction leaves where it went on, the frames of a call, a result and what is thrown are well formed
abbrev pub IsKept : World → Here → Outcome → Type 0
IsKept w at (Goes wraps now) = IsWellFormed w now × KeepsWords w at.heap now.heap
IsKept w at (Enters caller callee) = IsFrame w at.heap caller × IsFrame w at.heap callee
IsKept w at (Leaves value) = IsResult w at.heap value
IsKept w at (Throws what) = IsRaised w at.heap what
IsKept w at (Stops k) = Unit {0}

-- ---- the laws

abbrev pub InstructionsKeep : Type 0
InstructionsKeep = (w : World) (at : Here) → IsWellBuilt w → IsOfFiles w → IsWellFormed w at → IsKept w at (outcome_of w at)

abbrev pub StepsKeep : Type 0
StepsKeep =
    (w : World) (weights : ℕ → ℕ) (before now : State)
    → IsWellBuilt w → IsOfFiles w → IsConfiguration w before → Step w weights before now → IsConfiguration w now

abbrev pub EntriesAreWellFormed : Type 0
EntriesAreWellFormed = (w : World) (m : MemberId) (state : State) → IsEntry w m state → IsConfiguration w state

-- each configuration of each run is well formed
abbrev pub RunsAreWellFormed : Type 0
RunsAreWellFormed =
    (w : World) (weights : ℕ → ℕ) (m : MemberId) (run : List State) (moment : ℕ) (now : State)
    → IsWellBuilt w → IsOfFiles w → IsRun w weights m run → slice_get run moment ≡ Some now → IsConfiguration w now
