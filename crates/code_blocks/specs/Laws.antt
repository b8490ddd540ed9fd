-- What is known of the instructions of code, and of their blocks.
use Rattle.std.specs.Prelude.{◌≡◌, ◌↔◌, ◌⊎◌, ℕ, ◌+◌, ◌≤◌, true, false, List, [], ◌∷◌, length, slice_get, Some, None, Ok, Contains}
use Rattle.op_table.specs.Actions.{action_of}
use Rattle.op_table.specs.Grammar.{instr_at}
use Rattle.graph_core.specs.Graphs.{IsRising}
use Rattle.code_blocks.specs.declared.instruction.Placed.{Placed}
use Rattle.code_blocks.specs.declared.instruction.Instruction.{Instruction}
use Rattle.code_blocks.specs.declared.instruction.Block.{Block}
use Rattle.code_blocks.specs.Placing.{placed, broken, is_last}
use Rattle.code_blocks.specs.Successors.{goes_behind, behind, targets, successors_of, has_bad_target, instructions_of}
use Rattle.code_blocks.specs.Blocks.{is_end, next_pc, IsReached, IsBlock, AreBlocks}

-- an instruction of the list begins at the place
abbrev pub IsPlace : List Instruction → ℕ → Type 0
IsPlace is x = (i : Instruction) × Contains is i × (i.pc ≡ x)

-- Instructions stand one behind another from 0 on, one that ends no block leads to the next place alone, and each
-- successor is the place of an instruction.
pub record IsLaidOut (is : List Instruction) : Type 0 where
  pub start : (i : Instruction) → slice_get is 0 ≡ Some i → i.pc ≡ 0
  pub follows : (k : ℕ) (i j : Instruction) → slice_get is k ≡ Some i → slice_get is (k + 1) ≡ Some j → j.pc ≡ next_pc i
  pub long : (i : Instruction) → Contains is i → 1 ≤ i.instr.len
  pub behind : (i : Instruction) → Contains is i → is_end i ≡ false → i.successors ≡ next_pc i ∷ []
  pub closed : (i : Instruction) (x : ℕ) → Contains is i → Contains i.successors x → IsPlace is x

-- the code has instructions alone, each jump leads to one, and none that can go on behind itself is the last
pub record IsSound (code : List ℕ) : Type 0 where
  pub whole : broken code ≡ None
  pub jumps : (p : Placed) → Contains (placed code) p → has_bad_target code p ≡ false
  pub stays : (p : Placed) → Contains (placed code) p → is_last code p ≡ true → goes_behind (action_of p.instr) ≡ false

-- ---- the laws

-- the instructions of code are what stands at their places, and stand within the code
abbrev pub PlacedStand : Type 0
PlacedStand =
    (code : List ℕ) (p : Placed) → Contains (placed code) p → (instr_at code p.pc ≡ Ok p.instr) × (1 ≤ p.instr.len) × (p.pc + p.instr.len ≤ length code)

-- successors rise, and are the place behind the instruction and those that it jumps to
abbrev pub SuccessorsAreASet : Type 0
SuccessorsAreASet =
    (code : List ℕ) (p : Placed)
    → IsRising (successors_of code p) × ((x : ℕ) → Contains (successors_of code p) x ↔ (Contains (behind p) x ⊎ Contains (targets code p) x))

-- the instructions of such code stand so
abbrev pub CodeIsLaidOut : Type 0
CodeIsLaidOut = (code : List ℕ) → IsSound code → IsLaidOut (instructions_of code)

-- what follows a block is where a block begins
abbrev pub BlocksLeadToBlocks : Type 0
BlocksLeadToBlocks =
    (is : List Instruction) (blocks : List Block) (b : Block) (x : ℕ) → IsLaidOut is → AreBlocks is blocks
    → Contains blocks b → Contains b.successors x → (c : Block) × Contains blocks c × (c.pc ≡ x)

-- the place of the list is inside the block
abbrev pub IsInside : Block → ℕ → Type 0
IsInside b k = (b.first ≤ k) × (k ≤ b.last)

-- the instructions that successors lead to are exactly those that stand in blocks
abbrev pub BlocksHaveReached : Type 0
BlocksHaveReached =
    (is : List Instruction) (blocks : List Block) (k : ℕ) (i : Instruction) → IsLaidOut is → AreBlocks is blocks
    → slice_get is k ≡ Some i → IsReached is i.pc ↔ ((b : Block) × Contains blocks b × IsInside b k)

-- no instruction stands in two blocks
abbrev pub BlocksAreApart : Type 0
BlocksAreApart =
    (is : List Instruction) (b c : Block) (k : ℕ) → IsBlock is b → IsBlock is c → IsInside b k → IsInside c k → b ≡ c
