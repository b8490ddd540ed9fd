-- What the code gathers, list by list.
use Rattle.std.specs.Prelude.{◌≡◌, ◌↔◌, ◌-◌, ◌+◌, ◌≤◌, ℕ, Contains, nat_eq, List, [], ◌∷◌, length, take, drop, flat_map, slice_get, slice_index, Option, Some, None, if◌then◌else◌}
use Rattle.std.specs.List.{list_any}
use Rattle.class_pool.specs.declared.constant.Constant.{Constant}
use Rattle.op_table.specs.Actions.{action_of}
use Rattle.graph_core.specs.Graphs.{successors_of}
use Rattle.code_blocks.specs.declared.instruction.Instruction.{Instruction}
use Rattle.code_blocks.specs.declared.instruction.Block.{Block}
use Rattle.method_body.specs.Bodies.{MethodBody}
use Rattle.loop_cut.specs.declared.found.CodeLoop.{CodeLoop}
use Rattle.loop_cut.specs.Regions.{IsExit}
use Rattle.kind_effects.specs.Effects.{pops}
use Rattle.loop_cut.specs.Effects.{stored_by}

-- ---- exits

-- x, where it isn't one of the nodes
abbrev pub leaving : List ℕ → ℕ → List ℕ
leaving nodes x = if list_any (nat_eq x) nodes then [] else x ∷ []

abbrev pub leaving_from : List (List ℕ) → List ℕ → ℕ → List ℕ
leaving_from g nodes a = flat_map (leaving nodes) (successors_of g a)

-- where edges lead from the nodes, past them
abbrev pub leaving_all : List (List ℕ) → List ℕ → List ℕ
leaving_all g nodes = flat_map (leaving_from g nodes) nodes

-- ---- the code of blocks

-- the part of a list that belongs to a block
abbrev pub part_of : {A : Type 0} → List A → Option Block → List A
part_of xs None = []
part_of xs (Some b) = take (b.last + 1 - b.first) (drop b.first xs)

-- the number of the block that begins at each place where one does
abbrev pub AreNumbers : List Block → List ℕ → Type 0
AreNumbers blocks numbers = (k : ℕ) (b : Block) → slice_get blocks k ≡ Some b → slice_index numbers b.pc ≡ k

abbrev pub part_at : {A : Type 0} → List A → List Block → List ℕ → ℕ → List A
part_at xs blocks numbers pc = part_of xs (slice_get blocks (slice_index numbers pc))

abbrev pub stored_in : List Instruction → List ℕ
stored_in is = flat_map (λ (i : Instruction). stored_by (action_of i.instr)) is

abbrev pub stored_at : List Instruction → List Block → List ℕ → ℕ → List ℕ
stored_at is blocks numbers pc = stored_in (part_at is blocks numbers pc)

-- the height inside each instruction, after what it pops
pub record AreFloors (pool : List (Option Constant)) (is : List Instruction) (heights floors : List ℕ) : Type 0 where
  pub count : length floors ≡ length is
  pub each : (k : ℕ) (i : Instruction) → slice_get is k ≡ Some i → slice_index floors k ≡ slice_index heights k - pops pool (action_of i.instr)

-- the least number of the list, or none where it is empty
abbrev pub IsLeastOf : List ℕ → Option ℕ → Type 0
IsLeastOf xs None = (n : ℕ) → Contains xs n → ⊥
IsLeastOf xs (Some least) = Contains xs least × ((n : ℕ) → Contains xs n → least ≤ n)

abbrev pub or_zero : Option ℕ → ℕ
or_zero None = 0
or_zero (Some n) = n

-- ---- what is known before loops are cut

pub record IsSurvey (body : MethodBody) (heights numbers floors : List ℕ) : Type 0 where
  pub count : length numbers ≡ length body.code.bytes
  pub numbered : AreNumbers body.blocks numbers
  pub floored : AreFloors body.class.pool body.instructions heights floors

-- the exits of a loop are told
abbrev pub ExitsAre : List (List ℕ) → CodeLoop → Type 0
ExitsAre g l = (x : ℕ) → Contains l.exits x ↔ IsExit g 0 l.entry x
