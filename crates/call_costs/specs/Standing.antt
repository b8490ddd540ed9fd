-- Where runs of a program stand.
use Rattle.std.specs.Prelude.{◌≡◌, ℕ, ◌<◌, List, length, Some, IsTrue, Contains, slice_get}
use Rattle.std.specs.List.{AllByRecursion}
use Rattle.world.specs.declared.member.MemberId.{MemberId}
use Rattle.class_hierarchy.specs.World.{World, is_instantiable}
use Rattle.class_hierarchy.specs.Building.{IsWellBuilt}
use Rattle.class_reader.specs.declared.class.Code.{Code}
use Rattle.code_flow.specs.Plans.{Planned, Plan}
use Rattle.code_flow.specs.Program.{IsProgram}
use Rattle.frames.specs.declared.value.Value.{Value}
use Rattle.frames.specs.declared.value.Value.TheVariants.{Ref}
use Rattle.frames.specs.declared.heap.Cell.TheVariants.{Object}
use Rattle.frames.specs.declared.here.Here.{Here}
use Rattle.steps.specs.declared.configuration.State.{State}
use Rattle.frames.specs.Heap.{Cells, cell_at}
use Rattle.linking.specs.Methods.{code_at}
use Rattle.machine.specs.Run.{IsRun, CostsAtMost}
use Rattle.call_costs.specs.Costs.{cost_of}

-- a reference refers to an array, or to an object of a class of which there can be objects
abbrev pub IsSound : World → Cells → Value → Type 0
IsSound w heap (Ref r) = ((c : ℕ) (fields : List (MemberId × Value)) → cell_at heap r ≡ Some (Object c fields) → IsTrue (is_instantiable w c))
IsSound w heap value = Unit {0}

-- The frame stands at an instruction of a method of the program, and its words are sound.
pub record Stands (w : World) (program : List Plan) (here : Here) : Type 0 where
  pub reached : Plan
  pub listed : Contains program reached
  pub is_method : reached.method ≡ here.frame.method
  pub instruction : Planned
  pub placed : Contains reached.instructions instruction
  pub at : instruction.pc ≡ here.frame.pc
  pub locals : AllByRecursion (IsSound w here.heap) here.frame.locals
  pub stack : AllByRecursion (IsSound w here.heap) here.frame.stack

-- ---- the laws

-- the method's code isn't empty (JVMS 4.7.3)
abbrev pub HasInstructions : World → MemberId → Type 0
HasInstructions w m = (code : Code) → code_at w m ≡ Some code → 0 < length code.bytes

-- each configuration of a run of a program's method stands in the program
abbrev pub RunsStand : Type 0
RunsStand =
    (w : World) (m : MemberId) (program : List Plan) (weights : ℕ → ℕ) (run : List State) (moment : ℕ) (now : State)
    → IsWellBuilt w → IsProgram w m program → HasInstructions w m → IsRun w weights m run → slice_get run moment ≡ Some now
    → Stands w program now.here

-- and in each run of it, at each moment, at most the method's cost is spent
abbrev pub CostsBoundRuns : Type 0
CostsBoundRuns =
    (w : World) (m : MemberId) (program : List Plan) (weights : ℕ → ℕ)
    → IsWellBuilt w → IsProgram w m program → CostsAtMost w weights m (cost_of weights program m)
