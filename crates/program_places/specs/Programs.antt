-- Runs of a program's method.
use Rattle.std.specs.Prelude.{◌≡◌, ℕ, List, map, Some, slice_get}
use Rattle.world.specs.declared.member.MemberId.{MemberId}
use Rattle.class_hierarchy.specs.World.{World}
use Rattle.class_hierarchy.specs.Building.{IsWellBuilt}
use Rattle.code_flow.specs.Plans.{Plan}
use Rattle.code_flow.specs.Program.{IsProgram}
use Rattle.steps.specs.declared.configuration.State.{State}
use Rattle.machine.specs.Run.{IsRun}
use Rattle.well_formed.specs.WellFormed.{IsOfFiles}
use Rattle.run_places.specs.Standing.{IsClosed, AllStand, HasInstructions}

abbrev pub methods_of : List Plan → List MemberId
methods_of program = map (λ r. r.method) program

abbrev pub ProgramsAreClosed : Type 0
ProgramsAreClosed = (w : World) (m : MemberId) (program : List Plan) → IsProgram w m program → IsClosed w (methods_of program)

-- in each configuration of each run of a program's method all frames stand in the program
abbrev pub ProgramRunsStand : Type 0
ProgramRunsStand =
    (w : World) (m : MemberId) (program : List Plan) (weights : ℕ → ℕ) (run : List State) (moment : ℕ) (now : State)
    → IsWellBuilt w → IsOfFiles w → IsProgram w m program → HasInstructions w m
    → IsRun w weights m run → slice_get run moment ≡ Some now → AllStand w (methods_of program) now
