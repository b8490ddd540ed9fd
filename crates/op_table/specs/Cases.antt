-- The cases of a switch (JVMS 6.5.tableswitch, 6.5.lookupswitch).
use Rattle.std.specs.Prelude.{ℕ, ◌+◌, ◌*◌, ℤ, pos, ◌+ℤ◌, true, false, List, drop, Result, Ok, Err}
use Rattle.op_table.specs.declared.instr.Instr.{Instr}
use Rattle.op_table.specs.declared.instr.Args.{Args}
use Rattle.op_table.specs.declared.instr.Args.TheVariants.{None, Num, Local, Inc, Index, Jump, Switch}
use Rattle.op_table.specs.declared.instr.OpFault.{OpFault}
use Rattle.op_table.specs.Grammar.{int_at, value_of, padding, instr_at}

-- how many cases an instruction has
abbrev pub case_count : Args → ℕ
case_count None = 0
case_count (Num n) = 0
case_count (Local local) = 0
case_count (Inc local amount) = 0
case_count (Index index) = 0
case_count (Jump distance) = 0
case_count (Switch default low count pairs) = count

abbrev pub cases_of : Result Instr OpFault → ℕ
cases_of (Ok i) = case_count i.args
cases_of (Err fault) = 0

-- the value of a case and the distance of its jump, by the operands of the switch. The jumps of a
-- `tableswitch` stand behind three ints, the pairs of a `lookupswitch` behind two.
abbrev pub case_of : List ℕ → ℕ → Args → ℤ × ℤ
case_of operands i None = (pos 0, pos 0)
case_of operands i (Num n) = (pos 0, pos 0)
case_of operands i (Local local) = (pos 0, pos 0)
case_of operands i (Inc local amount) = (pos 0, pos 0)
case_of operands i (Index index) = (pos 0, pos 0)
case_of operands i (Jump distance) = (pos 0, pos 0)
case_of operands i (Switch default low count false) = (low +ℤ pos i, int_at (12 + 4 * i) operands)
case_of operands i (Switch default low count true) = (value_of i (drop 8 operands), int_at (4 + 8 * i) (drop 8 operands))

abbrev pub case_in : List ℕ → ℕ → Result Instr OpFault → ℤ × ℤ
case_in operands i (Ok instr) = case_of operands i instr.args
case_in operands i (Err fault) = (pos 0, pos 0)

-- the same for the switch at a place of the code
unfoldable pub case_at : List ℕ → ℕ → ℕ → ℤ × ℤ
case_at code pc i = case_in (drop (padding pc) (drop 1 (drop pc code))) i (instr_at code pc)
