-- The instruction that stands at a place of the code (JVMS 6.5).
use Rattle.std.specs.Prelude.{ℕ, zero, suc, ◌+◌, ◌-◌, ◌*◌, ◌%◌, ◌&&◌, nat_lt, ℤ, pos, negsuc, ◌-ℤ◌, int_lt, Bool, true, false, List, [], ◌∷◌, length, drop, Option, Some, None, Result, Ok, Err, if◌then◌else◌}
use Rattle.std.specs.Option.{option_and_then}
use Rattle.byteorder.specs.Endian.{big_number, twos_complement}
use Rattle.op_table.specs.declared.layout.Layout.{Layout}
use Rattle.op_table.specs.declared.layout.Layout.TheVariants.{Plain, TableSwitch, LookupSwitch, Wide}
use Rattle.op_table.specs.declared.layout.Operand.{Operand}
use Rattle.op_table.specs.declared.layout.Operand.TheVariants as operands
use Rattle.op_table.specs.declared.instr.Instr.{Instr}
use Rattle.op_table.specs.declared.instr.Args.{Args}
use Rattle.op_table.specs.declared.instr.Args.TheVariants as args
use Rattle.op_table.specs.declared.instr.OpFault.{OpFault}
use Rattle.op_table.specs.declared.instr.OpFault.TheVariants as faults
use Rattle.op_table.specs.Layouts.{layout_of, wide_form}

-- the number in the first n bytes, without a sign and in two's complement
abbrev pub unsigned_in : ℕ → List ℕ → ℕ
unsigned_in n bytes = big_number n bytes

abbrev pub signed_in : ℕ → List ℕ → ℤ
signed_in n bytes = twos_complement n (big_number n bytes)

-- the int at a place of the bytes
abbrev pub int_at : ℕ → List ℕ → ℤ
int_at place bytes = signed_in 4 (drop place bytes)

-- ---- operands of a fixed length

abbrev pub size_of : Operand → ℕ
size_of operands.Bare = 0
size_of operands.Byte = 1
size_of operands.Short = 2
size_of operands.Kind = 1
size_of operands.Local = 1
size_of operands.Increment = 2
size_of operands.WideLocal = 2
size_of operands.WideIncrement = 4
size_of operands.ByteIndex = 1
size_of operands.Index = 2
size_of operands.IndexAndByte = 3
size_of operands.IndexAndShort = 4
size_of operands.Jump = 2
size_of operands.FarJump = 4

abbrev pub args_in : List ℕ → Operand → Args
args_in bytes operands.Bare = args.None
args_in bytes operands.Byte = args.Num (signed_in 1 bytes)
args_in bytes operands.Short = args.Num (signed_in 2 bytes)
args_in bytes operands.Kind = args.Num (pos (unsigned_in 1 bytes))
args_in bytes operands.Local = args.Local (unsigned_in 1 bytes)
args_in bytes operands.Increment = args.Inc (unsigned_in 1 bytes) (signed_in 1 (drop 1 bytes))
args_in bytes operands.WideLocal = args.Local (unsigned_in 2 bytes)
args_in bytes operands.WideIncrement = args.Inc (unsigned_in 2 bytes) (signed_in 2 (drop 2 bytes))
args_in bytes operands.ByteIndex = args.Index (unsigned_in 1 bytes)
args_in bytes operands.Index = args.Index (unsigned_in 2 bytes)
args_in bytes operands.IndexAndByte = args.Index (unsigned_in 2 bytes)
args_in bytes operands.IndexAndShort = args.Index (unsigned_in 2 bytes)
args_in bytes operands.Jump = args.Jump (signed_in 2 bytes)
args_in bytes operands.FarJump = args.Jump (signed_in 4 bytes)

-- the instruction whose operands begin the bytes, where they are all there; before says how many bytes
-- of it stand before them
abbrev pub plain : ℕ → ℕ → Bool → ℕ → List ℕ → Operand → Result Instr OpFault
plain pc op wide before bytes operand =
    if nat_lt (length bytes) (size_of operand) then Err (faults.Short pc)
    else Ok (record { op = op; wide = wide; len = before + size_of operand; args = args_in bytes operand })

-- ---- `wide` (JVMS 6.5.wide)

abbrev pub plain_if : ℕ → ℕ → List ℕ → Option Operand → Result Instr OpFault
plain_if pc op bytes None = Err (faults.UnknownOp pc op)
plain_if pc op bytes (Some operand) = plain pc op true 2 bytes operand

abbrev pub widened : ℕ → List ℕ → Result Instr OpFault
widened pc [] = Err (faults.Short pc)
widened pc (op ∷ bytes) = plain_if pc op bytes (option_and_then wide_form (layout_of op))

-- ---- switches (JVMS 6.5.tableswitch, 6.5.lookupswitch)

-- how many bytes stand between the opcode and the operands, which begin at a multiple of four
abbrev pub padding : ℕ → ℕ
padding pc = 3 - pc % 4

-- a number that isn't below 0
abbrev pub whole : ℤ → Option ℕ
whole (pos n) = Some n
whole (negsuc n) = None

-- the switch, where its cases are all there; before says how many bytes of it stand before them, and
-- each takes so many
abbrev pub switch : ℕ → ℕ → ℕ → List ℕ → ℕ → ℤ → ℤ → ℕ → Bool → Result Instr OpFault
switch pc op before cases each default low count pairs =
    if nat_lt (length cases) (each * count) then Err (faults.Short pc)
    else Ok (record { op = op; wide = false; len = before + each * count; args = args.Switch default low count pairs })

-- from the least value to the greatest, which is so much above it
abbrev pub table_of : ℕ → ℕ → List ℕ → Option ℕ → Result Instr OpFault
table_of pc op bytes None = Err (faults.BadSwitch pc)
table_of pc op bytes (Some span) = switch pc op (13 + padding pc) (drop 12 bytes) 4 (int_at 0 bytes) (int_at 4 bytes) (suc span) false

abbrev pub table_switch : ℕ → ℕ → List ℕ → Result Instr OpFault
table_switch pc op bytes =
    if nat_lt (length bytes) 12 then Err (faults.Short pc)
    else table_of pc op bytes (whole (int_at 8 bytes -ℤ int_at 4 bytes))

-- the value of a pair, of which each takes eight bytes
abbrev pub value_of : ℕ → List ℕ → ℤ
value_of i pairs = int_at (8 * i) pairs

-- the values of the first n pairs rise
abbrev pub are_rising : ℕ → List ℕ → Bool
are_rising zero pairs = true
are_rising (suc zero) pairs = true
are_rising (suc (suc n)) pairs = are_rising (suc n) pairs && int_lt (value_of n pairs) (value_of (suc n) pairs)

abbrev pub rising : ℕ → Bool → Result Instr OpFault → Result Instr OpFault
rising pc true i = i
rising pc false (Ok i) = Err (faults.BadSwitch pc)
rising pc false (Err fault) = Err fault

abbrev pub pairs_of : ℕ → ℕ → List ℕ → Option ℕ → Result Instr OpFault
pairs_of pc op bytes None = Err (faults.BadSwitch pc)
pairs_of pc op bytes (Some count) =
    rising pc (are_rising count (drop 8 bytes)) (switch pc op (9 + padding pc) (drop 8 bytes) 8 (int_at 0 bytes) (pos 0) count true)

abbrev pub lookup_switch : ℕ → ℕ → List ℕ → Result Instr OpFault
lookup_switch pc op bytes =
    if nat_lt (length bytes) 8 then Err (faults.Short pc)
    else pairs_of pc op bytes (whole (int_at 4 bytes))

-- ---- an instruction

-- the instruction of an opcode, by the bytes behind it
abbrev pub laid_out : ℕ → ℕ → List ℕ → Option Layout → Result Instr OpFault
laid_out pc op bytes None = Err (faults.UnknownOp pc op)
laid_out pc op bytes (Some (Plain operand)) = plain pc op false 1 bytes operand
laid_out pc op bytes (Some TableSwitch) = table_switch pc op (drop (padding pc) bytes)
laid_out pc op bytes (Some LookupSwitch) = lookup_switch pc op (drop (padding pc) bytes)
laid_out pc op bytes (Some Wide) = widened pc bytes

abbrev pub first_instr : ℕ → List ℕ → Result Instr OpFault
first_instr pc [] = Err (faults.Short pc)
first_instr pc (op ∷ bytes) = laid_out pc op bytes (layout_of op)

-- the instruction at a place of the code, or why there is none
unfoldable pub instr_at : List ℕ → ℕ → Result Instr OpFault
instr_at code pc = first_instr pc (drop pc code)
