-- The names of the opcodes (JVMS 7).
use Rattle.std.specs.Prelude.{ℕ, List, [], ◌∷◌, codes, slice_index_or}

-- the mnemonic of each opcode from 0 on
abbrev pub names : List (List ℕ)
names =
    codes "nop" ∷ codes "aconst_null" ∷ codes "iconst_m1" ∷ codes "iconst_0"  -- 0
    ∷ codes "iconst_1" ∷ codes "iconst_2" ∷ codes "iconst_3" ∷ codes "iconst_4"  -- 4
    ∷ codes "iconst_5" ∷ codes "lconst_0" ∷ codes "lconst_1" ∷ codes "fconst_0"  -- 8
    ∷ codes "fconst_1" ∷ codes "fconst_2" ∷ codes "dconst_0" ∷ codes "dconst_1"  -- 12
    ∷ codes "bipush" ∷ codes "sipush" ∷ codes "ldc" ∷ codes "ldc_w"  -- 16
    ∷ codes "ldc2_w" ∷ codes "iload" ∷ codes "lload" ∷ codes "fload"  -- 20
    ∷ codes "dload" ∷ codes "aload" ∷ codes "iload_0" ∷ codes "iload_1"  -- 24
    ∷ codes "iload_2" ∷ codes "iload_3" ∷ codes "lload_0" ∷ codes "lload_1"  -- 28
    ∷ codes "lload_2" ∷ codes "lload_3" ∷ codes "fload_0" ∷ codes "fload_1"  -- 32
    ∷ codes "fload_2" ∷ codes "fload_3" ∷ codes "dload_0" ∷ codes "dload_1"  -- 36
    ∷ codes "dload_2" ∷ codes "dload_3" ∷ codes "aload_0" ∷ codes "aload_1"  -- 40
    ∷ codes "aload_2" ∷ codes "aload_3" ∷ codes "iaload" ∷ codes "laload"  -- 44
    ∷ codes "faload" ∷ codes "daload" ∷ codes "aaload" ∷ codes "baload"  -- 48
    ∷ codes "caload" ∷ codes "saload" ∷ codes "istore" ∷ codes "lstore"  -- 52
    ∷ codes "fstore" ∷ codes "dstore" ∷ codes "astore" ∷ codes "istore_0"  -- 56
    ∷ codes "istore_1" ∷ codes "istore_2" ∷ codes "istore_3" ∷ codes "lstore_0"  -- 60
    ∷ codes "lstore_1" ∷ codes "lstore_2" ∷ codes "lstore_3" ∷ codes "fstore_0"  -- 64
    ∷ codes "fstore_1" ∷ codes "fstore_2" ∷ codes "fstore_3" ∷ codes "dstore_0"  -- 68
    ∷ codes "dstore_1" ∷ codes "dstore_2" ∷ codes "dstore_3" ∷ codes "astore_0"  -- 72
    ∷ codes "astore_1" ∷ codes "astore_2" ∷ codes "astore_3" ∷ codes "iastore"  -- 76
    ∷ codes "lastore" ∷ codes "fastore" ∷ codes "dastore" ∷ codes "aastore"  -- 80
    ∷ codes "bastore" ∷ codes "castore" ∷ codes "sastore" ∷ codes "pop"  -- 84
    ∷ codes "pop2" ∷ codes "dup" ∷ codes "dup_x1" ∷ codes "dup_x2"  -- 88
    ∷ codes "dup2" ∷ codes "dup2_x1" ∷ codes "dup2_x2" ∷ codes "swap"  -- 92
    ∷ codes "iadd" ∷ codes "ladd" ∷ codes "fadd" ∷ codes "dadd"  -- 96
    ∷ codes "isub" ∷ codes "lsub" ∷ codes "fsub" ∷ codes "dsub"  -- 100
    ∷ codes "imul" ∷ codes "lmul" ∷ codes "fmul" ∷ codes "dmul"  -- 104
    ∷ codes "idiv" ∷ codes "ldiv" ∷ codes "fdiv" ∷ codes "ddiv"  -- 108
    ∷ codes "irem" ∷ codes "lrem" ∷ codes "frem" ∷ codes "drem"  -- 112
    ∷ codes "ineg" ∷ codes "lneg" ∷ codes "fneg" ∷ codes "dneg"  -- 116
    ∷ codes "ishl" ∷ codes "lshl" ∷ codes "ishr" ∷ codes "lshr"  -- 120
    ∷ codes "iushr" ∷ codes "lushr" ∷ codes "iand" ∷ codes "land"  -- 124
    ∷ codes "ior" ∷ codes "lor" ∷ codes "ixor" ∷ codes "lxor"  -- 128
    ∷ codes "iinc" ∷ codes "i2l" ∷ codes "i2f" ∷ codes "i2d"  -- 132
    ∷ codes "l2i" ∷ codes "l2f" ∷ codes "l2d" ∷ codes "f2i"  -- 136
    ∷ codes "f2l" ∷ codes "f2d" ∷ codes "d2i" ∷ codes "d2l"  -- 140
    ∷ codes "d2f" ∷ codes "i2b" ∷ codes "i2c" ∷ codes "i2s"  -- 144
    ∷ codes "lcmp" ∷ codes "fcmpl" ∷ codes "fcmpg" ∷ codes "dcmpl"  -- 148
    ∷ codes "dcmpg" ∷ codes "ifeq" ∷ codes "ifne" ∷ codes "iflt"  -- 152
    ∷ codes "ifge" ∷ codes "ifgt" ∷ codes "ifle" ∷ codes "if_icmpeq"  -- 156
    ∷ codes "if_icmpne" ∷ codes "if_icmplt" ∷ codes "if_icmpge" ∷ codes "if_icmpgt"  -- 160
    ∷ codes "if_icmple" ∷ codes "if_acmpeq" ∷ codes "if_acmpne" ∷ codes "goto"  -- 164
    ∷ codes "jsr" ∷ codes "ret" ∷ codes "tableswitch" ∷ codes "lookupswitch"  -- 168
    ∷ codes "ireturn" ∷ codes "lreturn" ∷ codes "freturn" ∷ codes "dreturn"  -- 172
    ∷ codes "areturn" ∷ codes "return" ∷ codes "getstatic" ∷ codes "putstatic"  -- 176
    ∷ codes "getfield" ∷ codes "putfield" ∷ codes "invokevirtual" ∷ codes "invokespecial"  -- 180
    ∷ codes "invokestatic" ∷ codes "invokeinterface" ∷ codes "invokedynamic" ∷ codes "new"  -- 184
    ∷ codes "newarray" ∷ codes "anewarray" ∷ codes "arraylength" ∷ codes "athrow"  -- 188
    ∷ codes "checkcast" ∷ codes "instanceof" ∷ codes "monitorenter" ∷ codes "monitorexit"  -- 192
    ∷ codes "wide" ∷ codes "multianewarray" ∷ codes "ifnull" ∷ codes "ifnonnull"  -- 196
    ∷ codes "goto_w" ∷ codes "jsr_w"  -- 200
    ∷ []

-- the mnemonic of an opcode
abbrev pub name_of : ℕ → List ℕ
name_of opcode = slice_index_or names opcode []
