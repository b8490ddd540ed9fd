-- The constant pool (JVMS 4.4).
use Rattle.std.specs.Prelude.{◌≡◌, ℕ, zero, suc, ◌+◌, ◌-◌, ◌<◌, ◌^◌, ℤ, Bool, true, false, List, [], ◌∷◌, ◌++◌, length, Option, Some, None, IsSome, IsTrue, option_and_then, option_map, slice_get, if◌then◌else◌}
use Rattle.std.specs.Int.{w32, w64, cast_signed}
use Rattle.std.specs.List.{AllByRecursion}
use Rattle.byteorder.specs.Endian.{big_bytes}
use Rattle.class_pool.specs.declared.constant.Constant.{Constant}
use Rattle.class_pool.specs.declared.constant.Constant.TheVariants.{Utf8, Integer, Float, Long, Double, Class, String, Fieldref, Methodref, InterfaceMethodref, NameAndType, MethodHandle, MethodType, Dynamic, InvokeDynamic, Module, Package}
use Rattle.class_pool.specs.Utf8.{is_modified_utf8}
use Rattle.class_pool.specs.Pieces.{Each}

-- ---- the bytes of an entry

-- a tag, and a number of so many bytes
abbrev pub HasNumber : ℕ → ℕ → ℕ → List ℕ → Type 0
HasNumber tag width n bytes = (n < 256 ^ width) × (bytes ≡ tag ∷ big_bytes width n)

-- a tag, and two numbers of so many bytes
abbrev pub HasNumbers : ℕ → ℕ → ℕ → ℕ → ℕ → List ℕ → Type 0
HasNumbers tag first second m n bytes = (m < 256 ^ first) × (n < 256 ^ second) × (bytes ≡ tag ∷ big_bytes first m ++ big_bytes second n)

-- a tag, a length of two bytes, and a text of so many
abbrev pub HasText : ℕ → List ℕ → List ℕ → Type 0
HasText tag text bytes = (length text < 2 ^ 16) × (bytes ≡ tag ∷ big_bytes 2 (length text) ++ text)

-- an entry is a tag and a body of its kind
abbrev pub IsEntry : List ℕ → Constant → Type 0
IsEntry bytes (Utf8 text) = HasText 1 text bytes
IsEntry bytes (Integer bits) = HasNumber 3 4 bits bytes
IsEntry bytes (Float bits) = HasNumber 4 4 bits bytes
IsEntry bytes (Long bits) = HasNumber 5 8 bits bytes
IsEntry bytes (Double bits) = HasNumber 6 8 bits bytes
IsEntry bytes (Class name) = HasNumber 7 2 name bytes
IsEntry bytes (String text) = HasNumber 8 2 text bytes
IsEntry bytes (Fieldref class member) = HasNumbers 9 2 2 class member bytes
IsEntry bytes (Methodref class member) = HasNumbers 10 2 2 class member bytes
IsEntry bytes (InterfaceMethodref class member) = HasNumbers 11 2 2 class member bytes
IsEntry bytes (NameAndType name descriptor) = HasNumbers 12 2 2 name descriptor bytes
IsEntry bytes (MethodHandle kind reference) = HasNumbers 15 1 2 kind reference bytes
IsEntry bytes (MethodType descriptor) = HasNumber 16 2 descriptor bytes
IsEntry bytes (Dynamic bootstrap member) = HasNumbers 17 2 2 bootstrap member bytes
IsEntry bytes (InvokeDynamic bootstrap member) = HasNumbers 18 2 2 bootstrap member bytes
IsEntry bytes (Module name) = HasNumber 19 2 name bytes
IsEntry bytes (Package name) = HasNumber 20 2 name bytes

-- the text of a Utf8 entry is one of class files
abbrev pub is_text : Constant → Bool
is_text (Utf8 text) = is_modified_utf8 text
is_text other = true

abbrev pub IsConstant : List ℕ → Constant → Type 0
IsConstant bytes entry = IsEntry bytes entry × IsTrue (is_text entry)

-- how many bytes an entry takes
abbrev pub size_of : Constant → ℕ
size_of (Utf8 text) = 3 + length text
size_of (Integer bits) = 5
size_of (Float bits) = 5
size_of (Long bits) = 9
size_of (Double bits) = 9
size_of (MethodHandle kind reference) = 4
size_of (Fieldref class member) = 5
size_of (Methodref class member) = 5
size_of (InterfaceMethodref class member) = 5
size_of (NameAndType name descriptor) = 5
size_of (Dynamic bootstrap member) = 5
size_of (InvokeDynamic bootstrap member) = 5
size_of other = 3

-- ---- the indices

-- a Long and a Double take two (JVMS 4.4.5)
abbrev pub is_wide : Constant → Bool
is_wide (Long bits) = true
is_wide (Double bits) = true
is_wide other = false

-- entries by index, from 1 on: the second index of a wide one has none
abbrev pub laid_out : List Constant → List (Option Constant)
laid_out [] = []
laid_out (entry ∷ entries) = Some entry ∷ (if is_wide entry then None ∷ laid_out entries else laid_out entries)

-- the entry with this index
abbrev pub constant_at : List (Option Constant) → ℕ → Option Constant
constant_at pool zero = None
constant_at pool (suc i) = option_and_then (λ slot. slot) (slice_get pool i)

-- ---- what an index names

abbrev pub text_of : Option Constant → Option (List ℕ)
text_of (Some (Utf8 text)) = Some text
text_of other = None

-- the text of a Utf8 entry
abbrev pub utf8_at : List (Option Constant) → ℕ → Option (List ℕ)
utf8_at pool index = text_of (constant_at pool index)

abbrev pub class_of : Option Constant → Option ℕ
class_of (Some (Class name)) = Some name
class_of other = None

-- the name of a Class entry
abbrev pub class_name_at : List (Option Constant) → ℕ → Option (List ℕ)
class_name_at pool index = option_and_then (utf8_at pool) (class_of (constant_at pool index))

abbrev pub named_of : Option Constant → Option (ℕ × ℕ)
named_of (Some (NameAndType name descriptor)) = Some (name, descriptor)
named_of other = None

-- two texts
abbrev pub texts_at : List (Option Constant) → ℕ × ℕ → Option (List ℕ × List ℕ)
texts_at pool named = option_and_then (λ name. option_map (λ descriptor. (name, descriptor)) (utf8_at pool named.1)) (utf8_at pool named.0)

-- the name and the descriptor of a NameAndType entry
abbrev pub name_and_type_at : List (Option Constant) → ℕ → Option (List ℕ × List ℕ)
name_and_type_at pool index = option_and_then (texts_at pool) (named_of (constant_at pool index))

-- the tag, the class and the NameAndType of a member reference
abbrev pub member_of : Option Constant → Option (ℕ × ℕ × ℕ)
member_of (Some (Fieldref class member)) = Some (9, class, member)
member_of (Some (Methodref class member)) = Some (10, class, member)
member_of (Some (InterfaceMethodref class member)) = Some (11, class, member)
member_of other = None

abbrev pub member_texts : List (Option Constant) → ℕ × ℕ × ℕ → Option (ℕ × List ℕ × List ℕ × List ℕ)
member_texts pool m = option_and_then (λ class. option_map (λ named. (m.0, class, named.0, named.1)) (name_and_type_at pool m.2)) (class_name_at pool m.1)

-- the tag of a member reference, the name of its class, its name and its descriptor
abbrev pub member_at : List (Option Constant) → ℕ → Option (ℕ × List ℕ × List ℕ × List ℕ)
member_at pool index = option_and_then (member_texts pool) (member_of (constant_at pool index))

abbrev pub int_of : Option Constant → Option ℤ
int_of (Some (Integer bits)) = Some (cast_signed w32 bits)
int_of other = None

-- the int of an Integer entry
abbrev pub int_at : List (Option Constant) → ℕ → Option ℤ
int_at pool index = int_of (constant_at pool index)

abbrev pub long_of : Option Constant → Option ℤ
long_of (Some (Long bits)) = Some (cast_signed w64 bits)
long_of other = None

-- the long of a Long entry
abbrev pub long_at : List (Option Constant) → ℕ → Option ℤ
long_at pool index = long_of (constant_at pool index)

-- ---- the pool

-- A Class, a String and a NameAndType name texts, and a member reference a Class and a NameAndType.
-- No other index is looked at.
abbrev pub IsLinked : List (Option Constant) → Constant → Type 0
IsLinked pool (Class name) = IsSome (utf8_at pool name)
IsLinked pool (String text) = IsSome (utf8_at pool text)
IsLinked pool (NameAndType name descriptor) = IsSome (utf8_at pool name) × IsSome (utf8_at pool descriptor)
IsLinked pool (Fieldref class member) = IsSome (class_of (constant_at pool class)) × IsSome (named_of (constant_at pool member))
IsLinked pool (Methodref class member) = IsSome (class_of (constant_at pool class)) × IsSome (named_of (constant_at pool member))
IsLinked pool (InterfaceMethodref class member) = IsSome (class_of (constant_at pool class)) × IsSome (named_of (constant_at pool member))
IsLinked pool other = Unit {0}

-- a count, and entries for the indices 1 to count - 1
pub record IsTable (bytes : List ℕ) (pool : List (Option Constant)) : Type 0 where
  pub count : ℕ
  pub entries : List Constant
  pub pieces : List ℕ
  pub count_fits : count < 2 ^ 16
  pub counted : count - 1 ≡ length pool
  pub laid : pool ≡ laid_out entries
  pub parts : bytes ≡ big_bytes 2 count ++ pieces
  pub each : Each IsConstant pieces entries

-- what each entry must name is there
abbrev pub IsLinkedSlot : List (Option Constant) → Option Constant → Type 0
IsLinkedSlot pool None = Unit {0}
IsLinkedSlot pool (Some entry) = IsLinked pool entry

-- the pool of a class file
pub record IsPool (bytes : List ℕ) (pool : List (Option Constant)) : Type 0 where
  pub table : IsTable bytes pool
  pub linked : AllByRecursion (IsLinkedSlot pool) pool
