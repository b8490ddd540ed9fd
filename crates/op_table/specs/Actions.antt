-- What each instruction does (JVMS 6.5). The groups are those of JVMS 7.
use Rattle.std.specs.Prelude.{ℕ, ◌-◌, ◌&&◌, nat_le, ℤ, pos, ◌-ℤ◌, true, false, List, [], ◌∷◌, Option, Some, None, find, if◌then◌else◌}
use Rattle.op_table.specs.declared.construct.Construct.TheVariants.{Opcode}
use Rattle.op_table.specs.declared.construct.Support.{Support}
use Rattle.op_table.specs.declared.construct.Support.TheVariants.{Yes, No}
use Rattle.op_table.specs.declared.instr.Instr.{Instr}
use Rattle.op_table.specs.declared.instr.Args.{Args}
use Rattle.op_table.specs.declared.instr.Args.TheVariants as args
use Rattle.op_table.specs.declared.acts.Action.{Action}
use Rattle.op_table.specs.declared.acts.Action.TheVariants.{Nothing, PushNull, PushInt, PushLong, PushConstant, PushLongConstant, Load, Store, LoadElement, StoreElement, Shuffle, Arithmetic, Negate, Shift, Logic, Increment, IntToLong, LongToInt, Narrow, CompareLongs, IfZero, IfInts, IfSame, IfNull, Goto, Switch, Return, ReturnNothing, GetStatic, PutStatic, GetField, PutField, Call, New, NewArray, NewReferenceArray, ArrayLength, Throw, CheckCast, InstanceOf, Outside}
use Rattle.op_table.specs.declared.acts.Kind.TheVariants as kinds
use Rattle.op_table.specs.declared.acts.Width.TheVariants as widths
use Rattle.op_table.specs.declared.acts.Element.TheVariants as elements
use Rattle.op_table.specs.declared.acts.Small.TheVariants as smalls
use Rattle.op_table.specs.declared.acts.Shuffle.TheVariants.{Pop, Pop2, Dup, DupX1, DupX2, Dup2, Dup2X1, Dup2X2, Swap}
use Rattle.op_table.specs.declared.acts.Arithmetic.TheVariants.{Add, Subtract, Multiply, Divide, Remainder}
use Rattle.op_table.specs.declared.acts.Shift.TheVariants.{Left, Right, UnsignedRight}
use Rattle.op_table.specs.declared.acts.Logic.TheVariants.{And, Or, Xor}
use Rattle.op_table.specs.declared.acts.Test.TheVariants.{Equal, NotEqual, Less, GreaterOrEqual, Greater, LessOrEqual}
use Rattle.op_table.specs.declared.acts.Call.TheVariants.{Virtual, Special, Static, Interface}
use Rattle.op_table.specs.Support.{support_of}

-- ---- what the operands say, and 0 where there are none of the sort

abbrev pub number_of : Args → ℤ
number_of (args.Num n) = n
number_of args.None = pos 0
number_of (args.Local local) = pos 0
number_of (args.Inc local amount) = pos 0
number_of (args.Index index) = pos 0
number_of (args.Jump distance) = pos 0
number_of (args.Switch default low count pairs) = pos 0

abbrev pub local_of : Args → ℕ
local_of (args.Local local) = local
local_of args.None = 0
local_of (args.Num n) = 0
local_of (args.Inc local amount) = 0
local_of (args.Index index) = 0
local_of (args.Jump distance) = 0
local_of (args.Switch default low count pairs) = 0

abbrev pub index_of : Args → ℕ
index_of (args.Index index) = index
index_of args.None = 0
index_of (args.Num n) = 0
index_of (args.Local local) = 0
index_of (args.Inc local amount) = 0
index_of (args.Jump distance) = 0
index_of (args.Switch default low count pairs) = 0

abbrev pub distance_of : Args → ℤ
distance_of (args.Jump distance) = distance
distance_of args.None = pos 0
distance_of (args.Num n) = pos 0
distance_of (args.Local local) = pos 0
distance_of (args.Inc local amount) = pos 0
distance_of (args.Index index) = pos 0
distance_of (args.Switch default low count pairs) = pos 0

abbrev pub increment_of : Args → Action
increment_of (args.Inc local amount) = Increment local amount
increment_of args.None = Increment 0 (pos 0)
increment_of (args.Num n) = Increment 0 (pos 0)
increment_of (args.Local local) = Increment 0 (pos 0)
increment_of (args.Index index) = Increment 0 (pos 0)
increment_of (args.Jump distance) = Increment 0 (pos 0)
increment_of (args.Switch default low count pairs) = Increment 0 (pos 0)

abbrev pub switch_of : Args → Action
switch_of (args.Switch default low count pairs) = Switch default low count pairs
switch_of args.None = Switch (pos 0) (pos 0) 0 false
switch_of (args.Num n) = Switch (pos 0) (pos 0) 0 false
switch_of (args.Local local) = Switch (pos 0) (pos 0) 0 false
switch_of (args.Inc local amount) = Switch (pos 0) (pos 0) 0 false
switch_of (args.Index index) = Switch (pos 0) (pos 0) 0 false
switch_of (args.Jump distance) = Switch (pos 0) (pos 0) 0 false

-- ---- what the opcodes do

-- the opcodes from first to last do this, by their place among them and their operands
pub record Row : Type 0 where
  pub first : ℕ
  pub last : ℕ
  pub does : ℕ → Args → Action

abbrev pub range : ℕ → ℕ → (ℕ → Args → Action) → Row
range first last does = record { first = first; last = last; does = does }

abbrev pub with_args : ℕ → (Args → Action) → Row
with_args opcode does = range opcode opcode (λ k a. does a)

abbrev pub always : ℕ → Action → Row
always opcode action = range opcode opcode (λ k a. action)

abbrev pub constants : List Row
constants =
    always 0 Nothing  -- nop
    ∷ always 1 PushNull  -- aconst_null
    ∷ range 2 8 (λ k a. PushInt (pos k -ℤ pos 1))  -- iconst_m1 to iconst_5
    ∷ range 9 10 (λ k a. PushLong (pos k))  -- lconst_0, lconst_1
    ∷ range 16 17 (λ k a. PushInt (number_of a))  -- bipush, sipush
    ∷ range 18 19 (λ k a. PushConstant (index_of a))  -- ldc, ldc_w
    ∷ with_args 20 (λ a. PushLongConstant (index_of a))  -- ldc2_w
    ∷ []

abbrev pub loads : List Row
loads =
    with_args 21 (λ a. Load kinds.Int (local_of a))  -- iload
    ∷ with_args 22 (λ a. Load kinds.Long (local_of a))  -- lload
    ∷ with_args 25 (λ a. Load kinds.Reference (local_of a))  -- aload
    ∷ range 26 29 (λ k a. Load kinds.Int k)  -- iload_0 to iload_3
    ∷ range 30 33 (λ k a. Load kinds.Long k)  -- lload_0 to lload_3
    ∷ range 42 45 (λ k a. Load kinds.Reference k)  -- aload_0 to aload_3
    ∷ always 46 (LoadElement elements.Int)  -- iaload
    ∷ always 47 (LoadElement elements.Long)  -- laload
    ∷ always 50 (LoadElement elements.Reference)  -- aaload
    ∷ always 51 (LoadElement elements.Byte)  -- baload
    ∷ always 52 (LoadElement elements.Char)  -- caload
    ∷ always 53 (LoadElement elements.Short)  -- saload
    ∷ []

abbrev pub stores : List Row
stores =
    with_args 54 (λ a. Store kinds.Int (local_of a))  -- istore
    ∷ with_args 55 (λ a. Store kinds.Long (local_of a))  -- lstore
    ∷ with_args 58 (λ a. Store kinds.Reference (local_of a))  -- astore
    ∷ range 59 62 (λ k a. Store kinds.Int k)  -- istore_0 to istore_3
    ∷ range 63 66 (λ k a. Store kinds.Long k)  -- lstore_0 to lstore_3
    ∷ range 75 78 (λ k a. Store kinds.Reference k)  -- astore_0 to astore_3
    ∷ always 79 (StoreElement elements.Int)  -- iastore
    ∷ always 80 (StoreElement elements.Long)  -- lastore
    ∷ always 83 (StoreElement elements.Reference)  -- aastore
    ∷ always 84 (StoreElement elements.Byte)  -- bastore
    ∷ always 85 (StoreElement elements.Char)  -- castore
    ∷ always 86 (StoreElement elements.Short)  -- sastore
    ∷ []

abbrev pub stack : List Row
stack =
    always 87 (Shuffle Pop) ∷ always 88 (Shuffle Pop2)
    ∷ always 89 (Shuffle Dup) ∷ always 90 (Shuffle DupX1) ∷ always 91 (Shuffle DupX2)
    ∷ always 92 (Shuffle Dup2) ∷ always 93 (Shuffle Dup2X1) ∷ always 94 (Shuffle Dup2X2)
    ∷ always 95 (Shuffle Swap)
    ∷ []

abbrev pub math : List Row
math =
    always 96 (Arithmetic Add widths.Int) ∷ always 97 (Arithmetic Add widths.Long)  -- iadd, ladd
    ∷ always 100 (Arithmetic Subtract widths.Int) ∷ always 101 (Arithmetic Subtract widths.Long)  -- isub, lsub
    ∷ always 104 (Arithmetic Multiply widths.Int) ∷ always 105 (Arithmetic Multiply widths.Long)  -- imul, lmul
    ∷ always 108 (Arithmetic Divide widths.Int) ∷ always 109 (Arithmetic Divide widths.Long)  -- idiv, ldiv
    ∷ always 112 (Arithmetic Remainder widths.Int) ∷ always 113 (Arithmetic Remainder widths.Long)  -- irem, lrem
    ∷ always 116 (Negate widths.Int) ∷ always 117 (Negate widths.Long)  -- ineg, lneg
    ∷ always 120 (Shift Left widths.Int) ∷ always 121 (Shift Left widths.Long)  -- ishl, lshl
    ∷ always 122 (Shift Right widths.Int) ∷ always 123 (Shift Right widths.Long)  -- ishr, lshr
    ∷ always 124 (Shift UnsignedRight widths.Int) ∷ always 125 (Shift UnsignedRight widths.Long)  -- iushr, lushr
    ∷ always 126 (Logic And widths.Int) ∷ always 127 (Logic And widths.Long)  -- iand, land
    ∷ always 128 (Logic Or widths.Int) ∷ always 129 (Logic Or widths.Long)  -- ior, lor
    ∷ always 130 (Logic Xor widths.Int) ∷ always 131 (Logic Xor widths.Long)  -- ixor, lxor
    ∷ with_args 132 increment_of  -- iinc
    ∷ []

abbrev pub conversions : List Row
conversions =
    always 133 IntToLong  -- i2l
    ∷ always 136 LongToInt  -- l2i
    ∷ always 145 (Narrow smalls.Byte)  -- i2b
    ∷ always 146 (Narrow smalls.Char)  -- i2c
    ∷ always 147 (Narrow smalls.Short)  -- i2s
    ∷ []

abbrev pub comparisons : List Row
comparisons =
    always 148 CompareLongs  -- lcmp
    ∷ with_args 153 (λ a. IfZero Equal (distance_of a))  -- ifeq
    ∷ with_args 154 (λ a. IfZero NotEqual (distance_of a))  -- ifne
    ∷ with_args 155 (λ a. IfZero Less (distance_of a))  -- iflt
    ∷ with_args 156 (λ a. IfZero GreaterOrEqual (distance_of a))  -- ifge
    ∷ with_args 157 (λ a. IfZero Greater (distance_of a))  -- ifgt
    ∷ with_args 158 (λ a. IfZero LessOrEqual (distance_of a))  -- ifle
    ∷ with_args 159 (λ a. IfInts Equal (distance_of a))  -- if_icmpeq
    ∷ with_args 160 (λ a. IfInts NotEqual (distance_of a))  -- if_icmpne
    ∷ with_args 161 (λ a. IfInts Less (distance_of a))  -- if_icmplt
    ∷ with_args 162 (λ a. IfInts GreaterOrEqual (distance_of a))  -- if_icmpge
    ∷ with_args 163 (λ a. IfInts Greater (distance_of a))  -- if_icmpgt
    ∷ with_args 164 (λ a. IfInts LessOrEqual (distance_of a))  -- if_icmple
    ∷ with_args 165 (λ a. IfSame true (distance_of a))  -- if_acmpeq
    ∷ with_args 166 (λ a. IfSame false (distance_of a))  -- if_acmpne
    ∷ []

abbrev pub control : List Row
control =
    with_args 167 (λ a. Goto (distance_of a))  -- goto
    ∷ range 170 171 (λ k a. switch_of a)  -- tableswitch, lookupswitch
    ∷ always 172 (Return kinds.Int)  -- ireturn
    ∷ always 173 (Return kinds.Long)  -- lreturn
    ∷ always 176 (Return kinds.Reference)  -- areturn
    ∷ always 177 ReturnNothing  -- return
    ∷ []

abbrev pub references : List Row
references =
    with_args 178 (λ a. GetStatic (index_of a))
    ∷ with_args 179 (λ a. PutStatic (index_of a))
    ∷ with_args 180 (λ a. GetField (index_of a))
    ∷ with_args 181 (λ a. PutField (index_of a))
    ∷ with_args 182 (λ a. Call Virtual (index_of a))
    ∷ with_args 183 (λ a. Call Special (index_of a))
    ∷ with_args 184 (λ a. Call Static (index_of a))
    ∷ with_args 185 (λ a. Call Interface (index_of a))
    ∷ with_args 187 (λ a. New (index_of a))
    ∷ with_args 188 (λ a. NewArray (number_of a))
    ∷ with_args 189 (λ a. NewReferenceArray (index_of a))
    ∷ always 190 ArrayLength
    ∷ always 191 Throw
    ∷ with_args 192 (λ a. CheckCast (index_of a))
    ∷ with_args 193 (λ a. InstanceOf (index_of a))
    ∷ []

abbrev pub extended : List Row
extended =
    with_args 198 (λ a. IfNull true (distance_of a))  -- ifnull
    ∷ with_args 199 (λ a. IfNull false (distance_of a))  -- ifnonnull
    ∷ with_args 200 (λ a. Goto (distance_of a))  -- goto_w
    ∷ []

abbrev pub rows_of : ℕ → List Row
rows_of opcode =
    if nat_le opcode 20 then constants
    else if nat_le opcode 53 then loads
    else if nat_le opcode 86 then stores
    else if nat_le opcode 95 then stack
    else if nat_le opcode 132 then math
    else if nat_le opcode 147 then conversions
    else if nat_le opcode 166 then comparisons
    else if nat_le opcode 177 then control
    else if nat_le opcode 195 then references
    else extended

-- an opcode of no row, as `wide` alone, is no instruction
abbrev pub done_by : ℕ → Args → Option Row → Action
done_by opcode a None = Outside Opcode
done_by opcode a (Some r) = r.does (opcode - r.first) a

abbrev pub action_in : List Row → ℕ → Args → Action
action_in rows opcode a = done_by opcode a (find (λ r. nat_le r.first opcode && nat_le opcode r.last) rows)

abbrev pub supported : Support → Action → Action
supported Yes action = action
supported (No construct) action = Outside construct

-- what an instruction does
unfoldable pub action_of : Instr → Action
action_of i = supported (support_of i.op) (action_in (rows_of i.op) i.op i.args)
