-- How blocks are cut.
use Rattle.std.specs.Prelude.{◌≡◌, ◌↔◌, ℕ, ◌+◌, ◌<◌, ◌≤◌, Bool, true, false, List, length, slice_get, slice_index_or, Option, Some, None, Contains, AllPairs}
use Rattle.graph_core.specs.Graphs.{HasEdge}
use Rattle.graph_core.specs.Search.{Found, IsSearch}
use Rattle.code_blocks.specs.declared.instruction.Instruction.{Instruction}
use Rattle.code_blocks.specs.declared.instruction.Block.{Block}
use Rattle.code_blocks.specs.declared.parts.Survey.{Survey}
use Rattle.code_blocks.specs.Blocks.{begins, IsReached, IsBlock}

-- an instruction leads from the place to another
abbrev pub HasWay : List Instruction → ℕ → ℕ → Type 0
HasWay is x y = (i : Instruction) × Contains is i × (i.pc ≡ x) × Contains i.successors y

-- a search through the instructions of code of this size
pub record IsSearched (size : ℕ) (is : List Instruction) (paths : Found) : Type 0 where
  pub graph : List (List ℕ)
  pub count : length graph ≡ size
  pub search : IsSearch graph 0 paths
  pub edges : (x y : ℕ) → HasEdge graph x y ↔ HasWay is x y

pub record IsSurvey (size : ℕ) (is : List Instruction) (survey : Survey) : Type 0 where
  pub same : survey.size ≡ size
  pub starts : (x : ℕ) → x < size → slice_index_or survey.starts x false ≡ begins is x
  pub paths : IsSearched size is survey.paths

abbrev pub cut_before : List Instruction → Option Instruction → Bool
cut_before is None = true
cut_before is (Some i) = begins is i.pc

-- a block ends with the instruction at the place of the list
abbrev pub is_cut : List Instruction → ℕ → Bool
is_cut is k = cut_before is (slice_get is (k + 1))

-- the block from one place of the list to another
pub record IsBlockOf (is : List Instruction) (f l : ℕ) (b : Block) : Type 0 where
  pub first : Instruction
  pub last : Instruction
  pub at_first : slice_get is f ≡ Some first
  pub at_last : slice_get is l ≡ Some last
  pub is_block : b ≡ record { pc = first.pc; first = f; last = l; successors = last.successors }

-- of the instructions from one place of the list to another the first alone begins a block
pub record IsRun (is : List Instruction) (f l : ℕ) : Type 0 where
  pub ordered : f ≤ l
  pub begins_at : (i : Instruction) → slice_get is f ≡ Some i → begins is i.pc ≡ true
  pub inside : (k : ℕ) (i : Instruction) → f < k → k ≤ l → slice_get is k ≡ Some i → begins is i.pc ≡ false

-- the blocks of the instructions before a place
pub record AreBlocksTo (is : List Instruction) (n : ℕ) (blocks : List Block) : Type 0 where
  pub order : AllPairs (λ (a b : Block). a.last < b.first) blocks
  pub all : (b : Block) → Contains blocks b ↔ (IsBlock is b × IsReached is b.pc × (b.last < n))
