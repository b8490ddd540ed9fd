-- What instructions, switches and actions keep.
use Rattle.std.specs.Prelude.{◌≡◌, ℕ, ◌+◌, ◌<◌, ◌≤◌, ◌<ℤ◌, List, length, slice_index, Some, Ok}
use Rattle.op_table.specs.declared.acts.Action.TheVariants.{Outside}
use Rattle.op_table.specs.declared.construct.Construct.{Construct}
use Rattle.op_table.specs.declared.construct.Support.TheVariants.{No}
use Rattle.op_table.specs.declared.instr.Instr.{Instr}
use Rattle.op_table.specs.Cases.{case_at, cases_of}
use Rattle.op_table.specs.Grammar.{instr_at}
use Rattle.op_table.specs.Support.{support_of}
use Rattle.op_table.specs.Actions.{action_of}

-- an instruction takes a byte at least, and stands within the code
abbrev pub InstrsFit : Type 0
InstrsFit = (code : List ℕ) (pc : ℕ) (i : Instr) → instr_at code pc ≡ Ok i → (1 ≤ i.len) × (pc + i.len ≤ length code)

-- the instruction at a place, with its length and what its operands say, is given by the place and by
-- the bytes that it takes: other code that has them there has the same instruction there
abbrev pub InstrsAreDetermined : Type 0
InstrsAreDetermined =
    (code other : List ℕ) (pc : ℕ) (i : Instr) → instr_at code pc ≡ Ok i → pc + i.len ≤ length other
    → ((k : ℕ) → k < i.len → slice_index other (pc + k) ≡ slice_index code (pc + k)) → instr_at other pc ≡ Ok i

-- the values of the cases of a switch rise
abbrev pub CasesRise : Type 0
CasesRise = (code : List ℕ) (pc i j : ℕ) → i < j → j < cases_of (instr_at code pc) → (case_at code pc i).0 <ℤ (case_at code pc j).0

-- an instruction that stands in code has no action only where its opcode is outside, and then as the opcode is
abbrev pub OnlyOutsideIsOutside : Type 0
OnlyOutsideIsOutside =
    (code : List ℕ) (pc : ℕ) (i : Instr) (c : Construct) → instr_at code pc ≡ Ok i → action_of i ≡ Outside c → support_of i.op ≡ No c
