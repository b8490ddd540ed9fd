-- What each instruction does to the kinds of a frame's slots (JVMS 6.5): how many words it pops, what it pushes, which
-- locals it reads and what it leaves in the locals. Words and locals stand from the bottom up.
use Rattle.std.specs.Prelude.{ℕ, ◌+◌, ◌*◌, List, [], ◌∷◌, ◌++◌, length, take, drop, Option, Some, None, slice_index_or, slice_set}
use Rattle.class_pool.specs.declared.constant.Constant.{Constant}
use Rattle.class_pool.specs.Pool.{member_at, class_name_at}
use Rattle.descriptors.specs.Pieces.{parameters_of, result_of}
use Rattle.descriptors.specs.Texts.{words_of_all}
use Rattle.op_table.specs.declared.acts.Action.{Action}
use Rattle.op_table.specs.declared.acts.Action.TheVariants as acts
use Rattle.op_table.specs.declared.acts.Kind as values
use Rattle.op_table.specs.declared.acts.Kind.TheVariants as value
use Rattle.op_table.specs.declared.acts.Width.{Width}
use Rattle.op_table.specs.declared.acts.Width.TheVariants as widths
use Rattle.op_table.specs.declared.acts.Element.{Element}
use Rattle.op_table.specs.declared.acts.Element.TheVariants as elements
use Rattle.op_table.specs.declared.acts.Shuffle.{Shuffle}
use Rattle.op_table.specs.declared.acts.Shuffle.TheVariants.{Pop, Pop2, Dup, DupX1, DupX2, Dup2, Dup2X1, Dup2X2, Swap}
use Rattle.op_table.specs.declared.acts.Call.{Call}
use Rattle.op_table.specs.declared.acts.Call.TheVariants.{Static}
use Rattle.slot_facts.specs.declared.kind.Kind.{Kind}
use Rattle.slot_facts.specs.declared.kind.Kind.TheVariants as kinds
use Rattle.kind_effects.specs.Types.{long_kinds, kinds_of_type, kinds_of_result, kind_named, array_named, array_of_numbers, kind_of_element, kind_cast}

-- ---- values

-- the kind of a local: nothing is known of one that isn't there
abbrev pub kind_at : List Kind → ℕ → Kind
kind_at locals n = slice_index_or locals n kinds.Top

-- the kinds of a number's slots
abbrev pub number_kinds : Width → List Kind
number_kinds widths.Int = kinds.Int ∷ []
number_kinds widths.Long = long_kinds

-- how many words a value takes
abbrev pub value_words : values.Kind → ℕ
value_words value.Int = 1
value_words value.Long = 2
value_words value.Reference = 1

abbrev pub width_words : Width → ℕ
width_words widths.Int = 1
width_words widths.Long = 2

abbrev pub element_words : Element → ℕ
element_words elements.Long = 2
element_words element = 1

-- ---- what the constant pool says

abbrev pub descriptor_in : Option (ℕ × List ℕ × List ℕ × List ℕ) → List ℕ
descriptor_in None = []
descriptor_in (Some member) = member.3

-- the descriptor of the member with this index: no text where there is none
abbrev pub descriptor_at : List (Option Constant) → ℕ → List ℕ
descriptor_at pool i = descriptor_in (member_at pool i)

-- ---- moves on the operand stack (JVMS 6.5.pop to 6.5.swap)

-- how many words stand in the group on top that a move takes, and in the one below it
abbrev pub top_size : Shuffle → ℕ
top_size Pop = 1
top_size Pop2 = 2
top_size Dup = 1
top_size DupX1 = 1
top_size DupX2 = 1
top_size Dup2 = 2
top_size Dup2X1 = 2
top_size Dup2X2 = 2
top_size Swap = 1

abbrev pub below_size : Shuffle → ℕ
below_size Pop = 0
below_size Pop2 = 0
below_size Dup = 0
below_size DupX1 = 1
below_size DupX2 = 2
below_size Dup2 = 0
below_size Dup2X1 = 1
below_size Dup2X2 = 2
below_size Swap = 1

-- what stands in the place of the two groups
abbrev pub moved : Shuffle → List Kind → List Kind → List Kind
moved Pop below top = []
moved Pop2 below top = []
moved Dup below top = top ++ top
moved DupX1 below top = top ++ below ++ top
moved DupX2 below top = top ++ below ++ top
moved Dup2 below top = top ++ top
moved Dup2X1 below top = top ++ below ++ top
moved Dup2X2 below top = top ++ below ++ top
moved Swap below top = top ++ below

-- ---- words that are popped

-- a receiver before the arguments, where the call isn't static
abbrev pub receiver_words : Call → ℕ
receiver_words Static = 0
receiver_words call = 1

-- how many words the action pops
unfoldable pub pops : List (Option Constant) → Action → ℕ
pops pool (acts.Store kind n) = value_words kind
pops pool (acts.LoadElement e) = 2
pops pool (acts.StoreElement e) = 2 + element_words e
pops pool (acts.Shuffle s) = below_size s + top_size s
pops pool (acts.Arithmetic op w) = 2 * width_words w
pops pool (acts.Negate w) = width_words w
pops pool (acts.Shift s w) = width_words w + 1
pops pool (acts.Logic l w) = 2 * width_words w
pops pool acts.IntToLong = 1
pops pool acts.LongToInt = 2
pops pool (acts.Narrow small) = 1
pops pool acts.CompareLongs = 4
pops pool (acts.IfZero test d) = 1
pops pool (acts.IfInts test d) = 2
pops pool (acts.IfSame same d) = 2
pops pool (acts.IfNull null d) = 1
pops pool (acts.Switch default low count pairs) = 1
pops pool (acts.Return kind) = value_words kind
pops pool (acts.PutStatic i) = length (kinds_of_type (descriptor_at pool i))
pops pool (acts.GetField i) = 1
pops pool (acts.PutField i) = 1 + length (kinds_of_type (descriptor_at pool i))
pops pool (acts.Call c i) = receiver_words c + words_of_all (parameters_of (descriptor_at pool i))
pops pool (acts.NewArray kind) = 1
pops pool (acts.NewReferenceArray i) = 1
pops pool acts.ArrayLength = 1
pops pool acts.Throw = 1
pops pool (acts.CheckCast i) = 1
pops pool (acts.InstanceOf i) = 1
pops pool action = 0

-- ---- words that are pushed

-- the kind of the lowest word that is popped
abbrev pub lowest : List Kind → Kind
lowest words = kind_at words 0

-- a number has the kind of its type, a reference that of its local
abbrev pub loaded : values.Kind → List Kind → ℕ → List Kind
loaded value.Int locals n = kinds.Int ∷ []
loaded value.Long locals n = long_kinds
loaded value.Reference locals n = kind_at locals n ∷ []

abbrev pub element_kinds : Element → Kind → List Kind
element_kinds elements.Int array = kinds.Int ∷ []
element_kinds elements.Long array = long_kinds
element_kinds elements.Reference array = kind_of_element array ∷ []
element_kinds elements.Byte array = kinds.Int ∷ []
element_kinds elements.Char array = kinds.Int ∷ []
element_kinds elements.Short array = kinds.Int ∷ []

-- what the action pushes, by the locals and the words that it popped
unfoldable pub pushed : List (Option Constant) → Action → List Kind → List Kind → List Kind
pushed pool acts.PushNull locals words = kinds.Null ∷ []
pushed pool (acts.PushInt n) locals words = kinds.Int ∷ []
pushed pool (acts.PushLong n) locals words = long_kinds
pushed pool (acts.PushConstant i) locals words = kinds.Int ∷ []
pushed pool (acts.PushLongConstant i) locals words = long_kinds
pushed pool (acts.Load kind n) locals words = loaded kind locals n
pushed pool (acts.LoadElement e) locals words = element_kinds e (lowest words)
pushed pool (acts.Shuffle s) locals words = moved s (take (below_size s) words) (drop (below_size s) words)
pushed pool (acts.Arithmetic op w) locals words = number_kinds w
pushed pool (acts.Negate w) locals words = number_kinds w
pushed pool (acts.Shift s w) locals words = number_kinds w
pushed pool (acts.Logic l w) locals words = number_kinds w
pushed pool acts.IntToLong locals words = long_kinds
pushed pool acts.LongToInt locals words = kinds.Int ∷ []
pushed pool (acts.Narrow small) locals words = kinds.Int ∷ []
pushed pool acts.CompareLongs locals words = kinds.Int ∷ []
pushed pool (acts.GetStatic i) locals words = kinds_of_type (descriptor_at pool i)
pushed pool (acts.GetField i) locals words = kinds_of_type (descriptor_at pool i)
pushed pool (acts.Call c i) locals words = kinds_of_result (result_of (descriptor_at pool i))
pushed pool (acts.New i) locals words = kinds.Obj ∷ []
pushed pool (acts.NewArray kind) locals words = array_of_numbers kind ∷ []
pushed pool (acts.NewReferenceArray i) locals words = array_named (class_name_at pool i) ∷ []
pushed pool acts.ArrayLength locals words = kinds.Int ∷ []
pushed pool (acts.CheckCast i) locals words = kind_cast (kind_named (class_name_at pool i)) (lowest words) ∷ []
pushed pool (acts.InstanceOf i) locals words = kinds.Int ∷ []
pushed pool action locals words = []

-- ---- locals

-- a number has the kind of its type, a reference that of the word
abbrev pub stored : values.Kind → List Kind → ℕ → Kind → List Kind
stored value.Int locals n kind = slice_set locals n kinds.Int
stored value.Long locals n kind = slice_set (slice_set locals n kinds.Long) (n + 1) kinds.Pad
stored value.Reference locals n kind = slice_set locals n kind

-- the locals behind the action
unfoldable pub locals_after : Action → List Kind → List Kind → List Kind
locals_after (acts.Store kind n) locals words = stored kind locals n (lowest words)
locals_after (acts.Increment n k) locals words = slice_set locals n kinds.Int
locals_after action locals words = locals

-- the kinds of a value's slots in locals
abbrev pub value_in : values.Kind → List Kind → ℕ → List Kind
value_in value.Int locals n = kind_at locals n ∷ []
value_in value.Long locals n = kind_at locals n ∷ kind_at locals (n + 1) ∷ []
value_in value.Reference locals n = kind_at locals n ∷ []

-- the kinds of the locals that the action reads
unfoldable pub locals_read : Action → List Kind → List Kind
locals_read (acts.Load kind n) locals = value_in kind locals n
locals_read (acts.Increment n k) locals = kind_at locals n ∷ []
locals_read action locals = []
