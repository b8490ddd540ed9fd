-- Descriptors of fields and methods (JVMS 4.3.2, 4.3.3).
use Rattle.std.specs.Prelude.{◌≡◌, ◌==◌, ◌&&◌, ◌||◌, not, ℕ, ◌+◌, ◌≤◌, Bool, false, List, [], ◌∷◌, ◌++◌, Option, Some, None, IfSome, IsTrue, sum_by, if◌then◌else◌}
use Rattle.std.specs.List.{flat_map, AllByRecursion}

-- a type as a descriptor writes it
pub data FieldType : Type 0 where
  Base : ℕ → FieldType
  Object : List ℕ → FieldType
  Array : FieldType → FieldType

-- one of the letters B C D F I J S Z
abbrev pub is_base_letter : ℕ → Bool
is_base_letter b = ((b == 66 || b == 67) || (b == 68 || b == 70)) || ((b == 73 || b == 74) || (b == 83 || b == 90))

-- a byte of an unqualified name: none of `.` `/` `;` `[` (JVMS 4.2.2)
abbrev pub is_name_byte : ℕ → Bool
is_name_byte b = not ((b == 46 || b == 47) || (b == 59 || b == 91))

-- unqualified names, none empty, with a `/` between each two (JVMS 4.2.1)
abbrev pub is_class_name : List ℕ → Bool
is_class_name [] = false
is_class_name (b ∷ []) = is_name_byte b
is_class_name (b ∷ c ∷ name) = is_name_byte b && (if c == 47 then is_class_name name else is_class_name (c ∷ name))

-- `L` and `;` stand around the name of a class, and `[` before the type of an array's elements
abbrev pub type_text : FieldType → List ℕ
type_text (Base letter) = letter ∷ []
type_text (Object name) = 76 ∷ name ++ 59 ∷ []
type_text (Array element) = 91 ∷ type_text element

-- its letters and names are those of the grammar
abbrev pub HasForm : FieldType → Type 0
HasForm (Base letter) = IsTrue (is_base_letter letter)
HasForm (Object name) = IsTrue (is_class_name name)
HasForm (Array element) = HasForm element

-- what stands behind the parameters: `V` where nothing is returned
abbrev pub result_text : Option FieldType → List ℕ
result_text None = 86 ∷ []
result_text (Some type) = type_text type

-- parameters in parentheses, and the result
abbrev pub method_text : List FieldType → Option FieldType → List ℕ
method_text parameters returned = 40 ∷ flat_map type_text parameters ++ 41 ∷ result_text returned

-- the text is a method descriptor, whatever its limits
pub record IsMethodText (desc : List ℕ) : Type 0 where
  pub parameters : List FieldType
  pub returned : Option FieldType
  pub parts : desc ≡ method_text parameters returned
  pub each : AllByRecursion HasForm parameters
  pub result : IfSome returned HasForm

-- ---- limits

abbrev pub dimensions : FieldType → ℕ
dimensions (Base letter) = 0
dimensions (Object name) = 0
dimensions (Array element) = dimensions element + 1

-- a type has at most 255 dimensions (JVMS 4.3.2)
abbrev pub HasFewDimensions : FieldType → Type 0
HasFewDimensions type = dimensions type ≤ 255

-- how many words a value takes: two for a long (J) or a double (D)
abbrev pub words_of : FieldType → ℕ
words_of (Base letter) = if letter == 74 || letter == 68 then 2 else 1
words_of (Object name) = 1
words_of (Array element) = 1

-- with a receiver where the method isn't static, the parameters take at most 255 words (JVMS 4.3.3)
abbrev pub HasFewWords : Bool → List FieldType → Type 0
HasFewWords static parameters = sum_by words_of parameters + (if static then 0 else 1) ≤ 255

-- float (F), double (D), or an array of one of them
abbrev pub is_float : FieldType → Bool
is_float (Base letter) = letter == 70 || letter == 68
is_float (Object name) = false
is_float (Array element) = is_float element

-- ---- descriptors

abbrev pub IsFieldType : FieldType → Type 0
IsFieldType type = HasForm type × HasFewDimensions type

-- the descriptor of a field is its type (JVMS 4.3.2)
pub record IsFieldDescriptor (desc : List ℕ) : Type 0 where
  pub type : FieldType
  pub parts : desc ≡ type_text type
  pub fits : IsFieldType type

-- the descriptor of a method (JVMS 4.3.3)
pub record IsMethodDescriptor (static : Bool) (desc : List ℕ) : Type 0 where
  pub parameters : List FieldType
  pub returned : Option FieldType
  pub parts : desc ≡ method_text parameters returned
  pub each : AllByRecursion IsFieldType parameters
  pub result : IfSome returned IsFieldType
  pub words : HasFewWords static parameters
