-- The opcodes that are analysed.
use Rattle.std.specs.Prelude.{ℕ, ◌&&◌, nat_le, List, [], ◌∷◌, Option, Some, None, find}
use Rattle.op_table.specs.declared.construct.Construct.{Construct}
use Rattle.op_table.specs.declared.construct.Construct.TheVariants.{Float, Monitor, Dynamic, Jsr, Multiarray}
use Rattle.op_table.specs.declared.construct.Support.{Support}
use Rattle.op_table.specs.declared.construct.Support.TheVariants.{Yes, No}

-- the opcodes from first to last are outside, as this construct
pub record Outside : Type 0 where
  pub first : ℕ
  pub last : ℕ
  pub construct : Construct

abbrev pub outside : ℕ → ℕ → Construct → Outside
outside first last construct = record { first = first; last = last; construct = construct }

abbrev pub all_outside : List Outside
all_outside =
    outside 11 15 Float  -- fconst, dconst
    ∷ outside 23 24 Float  -- fload, dload
    ∷ outside 34 41 Float  -- fload_0 to dload_3
    ∷ outside 48 49 Float  -- faload, daload
    ∷ outside 56 57 Float  -- fstore, dstore
    ∷ outside 67 74 Float  -- fstore_0 to dstore_3
    ∷ outside 81 82 Float  -- fastore, dastore
    ∷ outside 98 99 Float  -- fadd, dadd
    ∷ outside 102 103 Float  -- fsub, dsub
    ∷ outside 106 107 Float  -- fmul, dmul
    ∷ outside 110 111 Float  -- fdiv, ddiv
    ∷ outside 114 115 Float  -- frem, drem
    ∷ outside 118 119 Float  -- fneg, dneg
    ∷ outside 134 135 Float  -- i2f, i2d
    ∷ outside 137 144 Float  -- l2f to d2f
    ∷ outside 149 152 Float  -- fcmpl to dcmpg
    ∷ outside 168 169 Jsr  -- jsr, ret
    ∷ outside 174 175 Float  -- freturn, dreturn
    ∷ outside 186 186 Dynamic  -- invokedynamic
    ∷ outside 194 195 Monitor  -- monitorenter, monitorexit
    ∷ outside 197 197 Multiarray  -- multianewarray
    ∷ outside 201 201 Jsr  -- jsr_w
    ∷ []

abbrev pub unless : Option Outside → Support
unless None = Yes
unless (Some o) = No o.construct

-- whether an opcode is analysed, or as what it is not
abbrev pub support_of : ℕ → Support
support_of opcode = unless (find (λ o. nat_le o.first opcode && nat_le opcode o.last) all_outside)
