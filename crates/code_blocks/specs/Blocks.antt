-- The blocks of a method's instructions.
use Rattle.std.specs.Prelude.{◌≡◌, ◌↔◌, ℕ, ◌+◌, ◌<◌, ◌≤◌, ◌==◌, ◌&&◌, ◌||◌, nat_eq, Bool, true, false, List, slice_get, Some, Contains, All, AllPairs}
use Rattle.std.specs.List.{list_any}
use Rattle.op_table.specs.Actions.{action_of}
use Rattle.op_table.specs.declared.acts.Action.{Action}
use Rattle.op_table.specs.declared.acts.Action.TheVariants as acts
use Rattle.code_blocks.specs.declared.instruction.Instruction.{Instruction}
use Rattle.code_blocks.specs.declared.instruction.Block.{Block}

-- a block ends with a jump, a switch, a return or a throw
abbrev pub ends_block : Action → Bool
ends_block (acts.IfZero test d) = true
ends_block (acts.IfInts test d) = true
ends_block (acts.IfSame same d) = true
ends_block (acts.IfNull null d) = true
ends_block (acts.Goto d) = true
ends_block (acts.Switch default low count pairs) = true
ends_block (acts.Return kind) = true
ends_block acts.ReturnNothing = true
ends_block acts.Throw = true
ends_block action = false

abbrev pub is_end : Instruction → Bool
is_end i = ends_block (action_of i.instr)

-- The instructions and their successors stand in code of this size, and the first at its beginning.
pub record AreWithin (size : ℕ) (is : List Instruction) : Type 0 where
  pub start : (i : Instruction) → slice_get is 0 ≡ Some i → i.pc ≡ 0
  pub places : (i : Instruction) → Contains is i → i.pc < size
  pub successors : (i : Instruction) → Contains is i → All (λ x. x < size) i.successors

-- the place behind the instruction
abbrev pub next_pc : Instruction → ℕ
next_pc i = i.pc + i.instr.len

-- a block begins at the place: behind the instruction, which ends one, or where it jumps to
abbrev pub starts : ℕ → Instruction → Bool
starts x i = is_end i && ((x == next_pc i) || list_any (nat_eq x) i.successors)

-- a block begins at the place: at the code's beginning, behind an instruction that ends one, or at a target of a jump
unfoldable pub begins : List Instruction → ℕ → Bool
begins is x = (x == 0) || list_any (starts x) is

-- successors lead from the code's beginning to the place
pub data IsReached (is : List Instruction) : ℕ → Type 0 where
  at_start : IsReached is 0
  onward : {x : ℕ} (i : Instruction) → Contains is i → IsReached is i.pc → Contains i.successors x → IsReached is x

-- The instructions from one place of the list to another: a block begins at the first of them alone, and the
-- instruction behind them begins one, where there is one.
pub record IsBlock (is : List Instruction) (b : Block) : Type 0 where
  pub first : Instruction
  pub last : Instruction
  pub at_first : slice_get is b.first ≡ Some first
  pub at_last : slice_get is b.last ≡ Some last
  pub ordered : b.first ≤ b.last
  pub place : first.pc ≡ b.pc
  pub begins_at : begins is b.pc ≡ true
  pub inside : (k : ℕ) (i : Instruction) → b.first < k → k ≤ b.last → slice_get is k ≡ Some i → begins is i.pc ≡ false
  pub ends_at : (i : Instruction) → slice_get is (b.last + 1) ≡ Some i → begins is i.pc ≡ true
  pub leads : b.successors ≡ last.successors

-- the blocks that successors lead to, in order
pub record AreBlocks (is : List Instruction) (blocks : List Block) : Type 0 where
  pub order : AllPairs (λ (a b : Block). a.last < b.first) blocks
  pub all : (b : Block) → Contains blocks b ↔ (IsBlock is b × IsReached is b.pc)
