-- How constructs that are outside what is analysed are named.
use Rattle.std.specs.Prelude.{List, ℕ, codes}
use Rattle.op_table.specs.declared.construct.Construct.{Construct}
use Rattle.op_table.specs.declared.construct.Construct.TheVariants.{Float, Monitor, Dynamic, Jsr, Multiarray, Constant, StaticRef, RefWrite, Native, Synchronized, Handler, ArrayMethod, Opcode, Target, FallsOff, MissingClass, MissingMember, Ambiguous, PackageOverride, AbstractTarget, Incompatible, Later}

-- the word of a construct
abbrev pub word_of : Construct → List ℕ
word_of Float = codes "float"
word_of Monitor = codes "monitor"
word_of Dynamic = codes "dynamic"
word_of Jsr = codes "jsr"
word_of Multiarray = codes "multiarray"
word_of Constant = codes "constant"
word_of StaticRef = codes "static_ref"
word_of RefWrite = codes "ref_write"
word_of Native = codes "native"
word_of Synchronized = codes "synchronized"
word_of Handler = codes "handler"
word_of ArrayMethod = codes "array_method"
word_of Opcode = codes "opcode"
word_of Target = codes "target"
word_of FallsOff = codes "falls_off"
word_of MissingClass = codes "missing_class"
word_of MissingMember = codes "missing_member"
word_of Ambiguous = codes "ambiguous"
word_of PackageOverride = codes "package_override"
word_of AbstractTarget = codes "abstract_target"
word_of Incompatible = codes "incompatible"
word_of Later = codes "later"
