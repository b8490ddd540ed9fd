-- What kinds say of runs: of each move, call and return, and of each moment.
use Rattle.std.specs.Prelude.{◌≡◌, ℕ, Bool, List, ◌∷◌, Some, slice_get}
use Rattle.std.specs.List.{AllByRecursion}
use Rattle.nested_runs.specs.Keeping.{Keeps}
use Rattle.world.specs.declared.member.MemberId.{MemberId}
use Rattle.class_hierarchy.specs.World.{World}
use Rattle.class_hierarchy.specs.Building.{IsWellBuilt}
use Rattle.code_flow.specs.Plans.{Plan}
use Rattle.code_flow.specs.Program.{IsProgram}
use Rattle.frames.specs.declared.here.Here.{Here}
use Rattle.frames.specs.Kept.{KeepsHeap}
use Rattle.frames.specs.Outcome.{Leaves}
use Rattle.steps.specs.declared.configuration.State.{State}
use Rattle.steps.specs.Step.{outcome_of}
use Rattle.entries.specs.Entry.{IsEntry}
use Rattle.machine.specs.Run.{IsRun}
use Rattle.machine.specs.Moment.{End, activations, AreWaiting, Moment}
use Rattle.well_formed.specs.WellFormed.{IsOfFiles}
use Rattle.well_formed.specs.Keeping.{KeepsWords}
use Rattle.kind_runs.specs.Meaning.{NamesNoArray}
use Rattle.program_places.specs.Programs.{methods_of}
use Rattle.program_kinds.specs.Meaning.{KindTable, AllHaveKinds, IsAsKinds}

-- ---- what is known since an activation started, and over a call that is done

-- it is as its kinds say, and the heap has kept what it had
pub record KindsSince (w : World) (methods : List MemberId) (table : KindTable) (start now : Here) : Type 0 where
  pub known : IsAsKinds w methods table now
  pub method : now.frame.method ≡ start.frame.method
  pub keeps : KeepsHeap start.heap now.heap
  pub words : KeepsWords w start.heap now.heap

-- the same of the state from which it returned
pub record KindsOver (w : World) (methods : List MemberId) (table : KindTable) (start : Here) (e : End) : Type 0 where
  pub last : Here
  pub since : KindsSince w methods table start last
  pub leaves : outcome_of w last ≡ Leaves e.value
  pub heap : e.heap ≡ last.heap
  pub statics : e.statics ≡ last.statics

-- ---- the laws

-- a program's methods with their kinds, in a world of classes that have files
pub record IsTyped (w : World) (m : MemberId) (program : List Plan) (table : KindTable) : Type 0 where
  pub well : IsWellBuilt w
  pub files : IsOfFiles w
  pub plain : NamesNoArray w
  pub is : IsProgram w m program
  pub kinds : AllHaveKinds w (methods_of program) table

-- each move, call and return keeps it
abbrev pub KindsAreKept : Type 0
KindsAreKept =
    (w : World) (m : MemberId) (program : List Plan) (table : KindTable) (weights : ℕ → ℕ) (unwrapped : Bool) → IsTyped w m program table
    → Keeps (activations w weights unwrapped) (λ start now. KindsSince w (methods_of program) table start now) (λ start e. KindsOver w (methods_of program) table start e)

-- at each moment each activation is as its kinds say, also each that waits, as it stood before its call
abbrev pub MomentsAreAsKinds : Type 0
MomentsAreAsKinds =
    (w : World) (m : MemberId) (program : List Plan) (table : KindTable) (weights : ℕ → ℕ) (unwrapped : Bool) (first now : State) → IsTyped w m program table
    → IsEntry w m first → (moment : Moment w weights unwrapped first now)
    → AllByRecursion (IsAsKinds w (methods_of program) table) (now.here ∷ moment.waiting)

-- the running activation, and those that wait
pub record AreAsKinds (w : World) (methods : List MemberId) (table : KindTable) (now : State) : Type 0 where
  pub waiting : List Here
  pub waits : AreWaiting w waiting now.callers
  pub each : AllByRecursion (IsAsKinds w methods table) (now.here ∷ waiting)

-- in each configuration of each run of the program's method
abbrev pub RunsAreAsKinds : Type 0
RunsAreAsKinds =
    (w : World) (m : MemberId) (program : List Plan) (table : KindTable) (weights : ℕ → ℕ) (run : List State) (moment : ℕ) (now : State) → IsTyped w m program table
    → IsRun w weights m run → slice_get run moment ≡ Some now → AreAsKinds w (methods_of program) table now
