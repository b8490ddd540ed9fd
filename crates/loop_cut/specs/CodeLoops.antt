-- The loops of a method's code, and what runs in them may change.
use Rattle.std.specs.Prelude.{◌≡◌, ◌↔◌, ℕ, ◌-◌, ◌≤◌, List, slice_get, slice_index, Some, All, Contains, map}
use Rattle.graph_core.specs.declared.loops.NestFault.{NestFault}
use Rattle.graph_core.specs.declared.loops.NestFault.TheVariants as nests
use Rattle.graph_core.specs.Graphs.{IsRising}
use Rattle.graph_core.specs.Loops.{IsAlsoEntered}
use Rattle.graph_core.specs.Nests.{Entered, IsFirstEntered}
use Rattle.graph_loops.specs.Nesting.{IsNested}
use Rattle.op_table.specs.Actions.{action_of}
use Rattle.code_blocks.specs.declared.instruction.Instruction.{Instruction}
use Rattle.code_blocks.specs.declared.instruction.Block.{Block}
use Rattle.code_blocks.specs.Laws.{IsInside}
use Rattle.method_body.specs.Bodies.{MethodBody}
use Rattle.loop_cut.specs.declared.found.CodeLoop.{CodeLoop}
use Rattle.loop_cut.specs.declared.found.Loops.{Loops}
use Rattle.loop_cut.specs.declared.found.CutFault.{CutFault}
use Rattle.loop_cut.specs.declared.found.CutFault.TheVariants as faults
use Rattle.loop_cut.specs.BlockGraph.{IsBlockGraph}
use Rattle.loop_cut.specs.Regions.{IsExit, IsHead}
use Rattle.kind_effects.specs.Effects.{pops}
use Rattle.loop_cut.specs.Effects.{stored_by}

abbrev pub fault_of : NestFault → CutFault
fault_of (nests.TwoEntries a b) = faults.Irreducible a b
fault_of nests.Memory = faults.Memory

-- the instruction with this number stands in one of the blocks that begin at these places
pub record StandsIn (body : MethodBody) (places : List ℕ) (k : ℕ) (i : Instruction) : Type 0 where
  pub block : Block
  pub known : Contains body.blocks block
  pub held : Contains places block.pc
  pub inside : IsInside block k
  pub there : slice_get body.instructions k ≡ Some i

-- an instruction of these blocks stores to the local
abbrev pub IsChanged : MethodBody → List ℕ → ℕ → Type 0
IsChanged body places n =
    (k : ℕ) × (i : Instruction) × StandsIn body places k i × Contains (stored_by (action_of i.instr)) n

-- the operand stack is so high inside an instruction of these blocks, after what it pops; heights are those before the
-- instructions
abbrev pub IsHeight : MethodBody → List ℕ → List ℕ → ℕ → Type 0
IsHeight body heights places n =
    (k : ℕ) × (i : Instruction) × StandsIn body places k i
    × (n ≡ slice_index heights k - pops body.class.pool (action_of i.instr))

abbrev pub IsLeast : (ℕ → Type 0) → ℕ → Type 0
IsLeast P n = P n × ((m : ℕ) → P m → n ≤ m)

abbrev pub entered_of : CodeLoop → Entered
entered_of l = record { entry = l.entry; nodes = l.blocks }

-- where the loop is left to, and what its instructions change
pub record IsCut (body : MethodBody) (heights : List ℕ) (g : List (List ℕ)) (l : CodeLoop) : Type 0 where
  pub exits_rise : IsRising l.exits
  pub exits : (x : ℕ) → Contains l.exits x ↔ IsExit g 0 l.entry x
  pub changed_rise : IsRising l.changed
  pub changed : (n : ℕ) → Contains l.changed n ↔ IsChanged body l.blocks n
  pub least : IsLeast (IsHeight body heights l.blocks) l.least_height

-- the loops of a method's code, of which each is entered at one block alone
pub record AreLoops (body : MethodBody) (heights : List ℕ) (ls : Loops) : Type 0 where
  pub graph : IsBlockGraph body ls.graph
  pub nested : IsNested ls.graph 0 ls.nested
  pub one_entry : (h x : ℕ) → IsAlsoEntered ls.graph 0 h x → ⊥
  pub same : map entered_of ls.loops ≡ ls.nested.loops
  pub each : All (IsCut body heights ls.graph) ls.loops
  pub heads_rise : IsRising ls.heads
  pub heads : (x : ℕ) → Contains ls.heads x ↔ IsHead ls.graph 0 x

-- of the loops of a method's code that are also entered elsewhere, that of a has the lowest entry, and b is the lowest
-- such block
pub record IsIrreducible (body : MethodBody) (a b : ℕ) : Type 0 where
  pub graph : List (List ℕ)
  pub is_graph : IsBlockGraph body graph
  pub first : IsFirstEntered graph 0 a b
