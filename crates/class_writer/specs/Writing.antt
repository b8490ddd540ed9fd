-- The bytes that are written of a class (JVMS 4.1). Each name is written as the first index that names it, the minor
-- version is 0, and there are no attributes but Code.
use Rattle.std.specs.Prelude.{ℕ, suc, ◌+◌, Bool, false, List, [], ◌∷◌, ◌++◌, length, Option, Some, None, codes, option_and_then, if◌then◌else◌}
use Rattle.std.specs.List.{flat_map}
use Rattle.std.specs.Str.{bytes_eq}
use Rattle.byteorder.specs.Endian.{big_bytes}
use Rattle.class_pool.specs.declared.constant.Constant.{Constant}
use Rattle.class_pool.specs.declared.constant.Constant.TheVariants.{Utf8, Integer, Float, Long, Double, Class, String, Fieldref, Methodref, InterfaceMethodref, NameAndType, MethodHandle, MethodType, Dynamic, InvokeDynamic, Module, Package}
use Rattle.class_pool.specs.Pool.{text_of, utf8_at, class_of}
use Rattle.class_reader.specs.declared.class.ClassRecord.{ClassRecord}
use Rattle.class_reader.specs.declared.class.Field.{Field}
use Rattle.class_reader.specs.declared.class.Method.{Method}
use Rattle.class_reader.specs.declared.class.Code.{Code}
use Rattle.class_reader.specs.declared.class.Handler.{Handler}

-- ---- indices

abbrev pub is_named : List ℕ → Option (List ℕ) → Bool
is_named x None = false
is_named x (Some text) = bytes_eq text x

-- the first index whose slot has this name, from one on; 0 where none has
abbrev pub index_from : (Option Constant → Option (List ℕ)) → List ℕ → ℕ → List (Option Constant) → ℕ
index_from name_of x index [] = 0
index_from name_of x index (slot ∷ slots) = if is_named x (name_of slot) then index else index_from name_of x (suc index) slots

-- the first index of a text
abbrev pub utf8_index : List (Option Constant) → List ℕ → List ℕ
utf8_index pool x = big_bytes 2 (index_from text_of x 1 pool)

-- the name of a class
abbrev pub class_name_of : List (Option Constant) → Option Constant → Option (List ℕ)
class_name_of pool slot = option_and_then (utf8_at pool) (class_of slot)

-- the first index of a class with this name
abbrev pub class_index : List (Option Constant) → List ℕ → List ℕ
class_index pool x = big_bytes 2 (index_from (class_name_of pool) x 1 pool)

-- ---- the pool

abbrev pub number_bytes : ℕ → ℕ → ℕ → List ℕ
number_bytes tag width n = tag ∷ big_bytes width n

abbrev pub numbers_bytes : ℕ → ℕ → ℕ → ℕ → ℕ → List ℕ
numbers_bytes tag first second m n = tag ∷ big_bytes first m ++ big_bytes second n

-- a tag and a body (JVMS 4.4)
abbrev pub entry_bytes : Constant → List ℕ
entry_bytes (Utf8 text) = 1 ∷ big_bytes 2 (length text) ++ text
entry_bytes (Integer bits) = number_bytes 3 4 bits
entry_bytes (Float bits) = number_bytes 4 4 bits
entry_bytes (Long bits) = number_bytes 5 8 bits
entry_bytes (Double bits) = number_bytes 6 8 bits
entry_bytes (Class name) = number_bytes 7 2 name
entry_bytes (String text) = number_bytes 8 2 text
entry_bytes (Fieldref class member) = numbers_bytes 9 2 2 class member
entry_bytes (Methodref class member) = numbers_bytes 10 2 2 class member
entry_bytes (InterfaceMethodref class member) = numbers_bytes 11 2 2 class member
entry_bytes (NameAndType name descriptor) = numbers_bytes 12 2 2 name descriptor
entry_bytes (MethodHandle kind reference) = numbers_bytes 15 1 2 kind reference
entry_bytes (MethodType descriptor) = number_bytes 16 2 descriptor
entry_bytes (Dynamic bootstrap member) = numbers_bytes 17 2 2 bootstrap member
entry_bytes (InvokeDynamic bootstrap member) = numbers_bytes 18 2 2 bootstrap member
entry_bytes (Module name) = number_bytes 19 2 name
entry_bytes (Package name) = number_bytes 20 2 name

abbrev pub slot_bytes : Option Constant → List ℕ
slot_bytes None = []
slot_bytes (Some entry) = entry_bytes entry

unfoldable pub pool_bytes : List (Option Constant) → List ℕ
pool_bytes pool = big_bytes 2 (length pool + 1) ++ flat_map slot_bytes pool

-- ---- counts and attributes

-- a count of two bytes, and each
abbrev pub counted_bytes : {A : Type 0} → (A → List ℕ) → List A → List ℕ
counted_bytes bytes xs = big_bytes 2 (length xs) ++ flat_map bytes xs

-- no attributes
abbrev pub none_bytes : List ℕ
none_bytes = big_bytes 2 0

-- ---- code

abbrev pub catch_bytes : List (Option Constant) → Option (List ℕ) → List ℕ
catch_bytes pool None = big_bytes 2 0
catch_bytes pool (Some class) = class_index pool class

unfoldable pub handler_bytes : List (Option Constant) → Handler → List ℕ
handler_bytes pool handler = big_bytes 2 handler.start ++ (big_bytes 2 handler.end ++ (big_bytes 2 handler.handler ++ catch_bytes pool handler.catch))

unfoldable pub code_bytes : List (Option Constant) → Code → List ℕ
code_bytes pool code = big_bytes 2 code.max_stack ++ (big_bytes 2 code.max_locals ++ (big_bytes 4 (length code.bytes) ++ (code.bytes ++ (counted_bytes (handler_bytes pool) code.handlers ++ none_bytes))))

-- the attributes of a method: Code, where it has code
unfoldable pub given_bytes : List (Option Constant) → Option Code → List ℕ
given_bytes pool None = none_bytes
given_bytes pool (Some code) = big_bytes 2 1 ++ (utf8_index pool (codes "Code") ++ (big_bytes 4 (length (code_bytes pool code)) ++ code_bytes pool code))

-- ---- fields and methods

unfoldable pub field_bytes : List (Option Constant) → Field → List ℕ
field_bytes pool field = big_bytes 2 field.flags ++ (utf8_index pool field.name ++ (utf8_index pool field.desc ++ none_bytes))

unfoldable pub method_bytes : List (Option Constant) → Method → List ℕ
method_bytes pool method = big_bytes 2 method.flags ++ (utf8_index pool method.name ++ (utf8_index pool method.desc ++ given_bytes pool method.code))

-- ---- the class

-- the index of the superclass, which each class of a file has
abbrev pub super_bytes : List (Option Constant) → Option (List ℕ) → List ℕ
super_bytes pool None = big_bytes 2 0
super_bytes pool (Some super_class) = class_index pool super_class

-- what stands behind the pool
unfoldable pub behind_bytes : ClassRecord → List ℕ
behind_bytes class =
    big_bytes 2 class.flags ++ (class_index class.pool class.name ++ (super_bytes class.pool class.super_name ++ (counted_bytes (class_index class.pool) class.interfaces ++ (counted_bytes (field_bytes class.pool) class.fields ++ (counted_bytes (method_bytes class.pool) class.methods ++ none_bytes)))))

unfoldable pub class_bytes : ClassRecord → List ℕ
class_bytes class = 202 ∷ 254 ∷ 186 ∷ 190 ∷ big_bytes 2 0 ++ (big_bytes 2 class.major ++ (pool_bytes class.pool ++ behind_bytes class))
