-- How the bytes behind each opcode are laid out (JVMS 6.5, 7).
use Rattle.std.specs.Prelude.{ℕ, ◌&&◌, nat_le, List, [], ◌∷◌, Option, Some, None, find}
use Rattle.std.specs.Option.{option_map}
use Rattle.op_table.specs.declared.layout.Layout.{Layout}
use Rattle.op_table.specs.declared.layout.Layout.TheVariants.{Plain, TableSwitch, LookupSwitch, Wide}
use Rattle.op_table.specs.declared.layout.Operand.{Operand}
use Rattle.op_table.specs.declared.layout.Operand.TheVariants.{Bare, Byte, Short, Kind, Local, Increment, WideLocal, WideIncrement, ByteIndex, Index, IndexAndByte, IndexAndShort, Jump, FarJump}

-- the opcodes from first to last have this layout
pub record Range : Type 0 where
  pub first : ℕ
  pub last : ℕ
  pub layout : Layout

abbrev pub range : ℕ → ℕ → Layout → Range
range first last layout = record { first = first; last = last; layout = layout }

abbrev pub layouts : List Range
layouts =
    range 0 15 (Plain Bare)  -- nop to dconst_1
    ∷ range 16 16 (Plain Byte)  -- bipush
    ∷ range 17 17 (Plain Short)  -- sipush
    ∷ range 18 18 (Plain ByteIndex)  -- ldc
    ∷ range 19 20 (Plain Index)  -- ldc_w, ldc2_w
    ∷ range 21 25 (Plain Local)  -- iload to aload
    ∷ range 26 53 (Plain Bare)  -- iload_0 to saload
    ∷ range 54 58 (Plain Local)  -- istore to astore
    ∷ range 59 131 (Plain Bare)  -- istore_0 to lxor
    ∷ range 132 132 (Plain Increment)  -- iinc
    ∷ range 133 152 (Plain Bare)  -- i2l to dcmpg
    ∷ range 153 168 (Plain Jump)  -- ifeq to jsr
    ∷ range 169 169 (Plain Local)  -- ret
    ∷ range 170 170 TableSwitch
    ∷ range 171 171 LookupSwitch
    ∷ range 172 177 (Plain Bare)  -- ireturn to return
    ∷ range 178 184 (Plain Index)  -- getstatic to invokestatic
    ∷ range 185 186 (Plain IndexAndShort)  -- invokeinterface, invokedynamic
    ∷ range 187 187 (Plain Index)  -- new
    ∷ range 188 188 (Plain Kind)  -- newarray
    ∷ range 189 189 (Plain Index)  -- anewarray
    ∷ range 190 191 (Plain Bare)  -- arraylength, athrow
    ∷ range 192 193 (Plain Index)  -- checkcast, instanceof
    ∷ range 194 195 (Plain Bare)  -- monitorenter, monitorexit
    ∷ range 196 196 Wide
    ∷ range 197 197 (Plain IndexAndByte)  -- multianewarray
    ∷ range 198 199 (Plain Jump)  -- ifnull, ifnonnull
    ∷ range 200 201 (Plain FarJump)  -- goto_w, jsr_w
    ∷ []

-- the layout of an opcode: none above 201
abbrev pub layout_of : ℕ → Option Layout
layout_of opcode = option_map (λ r. r.layout) (find (λ r. nat_le r.first opcode && nat_le opcode r.last) layouts)

-- the operands of an opcode behind `wide`: a local takes two bytes there, and so does what is added to it
abbrev pub wide_form : Layout → Option Operand
wide_form (Plain Local) = Some WideLocal
wide_form (Plain Increment) = Some WideIncrement
wide_form other = None
