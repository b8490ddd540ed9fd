-- The kinds of values by their types (JVMS 4.3.2, 2.11.1).
use Rattle.std.specs.Prelude.{ℕ, ℤ, pos, List, [], ◌∷◌, ◌++◌, drop, codes, Option, Some, None, if◌then◌else◌}
use Rattle.std.specs.Str.{bytes_eq}
use Rattle.std.specs.Ordering.{int_eq}
use Rattle.descriptors.specs.Texts.{is_array, is_reference}
use Rattle.slot_facts.specs.declared.kind.Kind.{Kind}
use Rattle.slot_facts.specs.declared.kind.Kind.TheVariants as kinds

-- the two slots of a long
abbrev pub long_kinds : List Kind
long_kinds = kinds.Long ∷ kinds.Pad ∷ []

-- the kind of an array or a class
abbrev pub kind_of_reference : List ℕ → Kind
kind_of_reference type = if is_array type then kinds.Arr (drop 1 type) else kinds.Obj

-- the kinds of a number's slots: of floats and doubles nothing is known, and all but longs are computed with as ints
abbrev pub kinds_of_number : List ℕ → List Kind
kinds_of_number type =
    if bytes_eq type (codes "J") then long_kinds
    else if bytes_eq type (codes "F") then kinds.Top ∷ []
    else if bytes_eq type (codes "D") then kinds.Top ∷ kinds.Top ∷ []
    else kinds.Int ∷ []

-- the kinds of the slots that a value of the type takes
unfoldable pub kinds_of_type : List ℕ → List Kind
kinds_of_type type = if is_reference type then kind_of_reference type ∷ [] else kinds_of_number type

-- the kinds of a result's slots: `V` is none
abbrev pub kinds_of_result : List ℕ → List Kind
kinds_of_result type = if bytes_eq type (codes "V") then [] else kinds_of_type type

-- the type of this name, which of an array is its own type (JVMS 4.4.1, 4.3.2)
abbrev pub type_named : List ℕ → List ℕ
type_named name = if is_array name then name else 76 ∷ name ++ 59 ∷ []

-- a class or an array by its name; where nothing is named, any reference
abbrev pub kind_named : Option (List ℕ) → Kind
kind_named None = kinds.Obj
kind_named (Some name) = kind_of_reference name

-- an array of elements of this name
abbrev pub array_named : Option (List ℕ) → Kind
array_named None = kinds.Obj
array_named (Some name) = kinds.Arr (type_named name)

-- an array of numbers, as newarray says what they are; of what isn't analysed, any reference (JVMS 6.5.newarray)
abbrev pub array_of_numbers : ℤ → Kind
array_of_numbers n =
    if int_eq n (pos 4) then kinds.Arr (codes "Z")
    else if int_eq n (pos 5) then kinds.Arr (codes "C")
    else if int_eq n (pos 8) then kinds.Arr (codes "B")
    else if int_eq n (pos 9) then kinds.Arr (codes "S")
    else if int_eq n (pos 10) then kinds.Arr (codes "I")
    else if int_eq n (pos 11) then kinds.Arr (codes "J") else kinds.Obj

-- an element of an array of references: of any reference, or of null
abbrev pub kind_of_element : Kind → Kind
kind_of_element (kinds.Arr element) = kind_of_reference element
kind_of_element kinds.Obj = kinds.Obj
kind_of_element kinds.Null = kinds.Null
kind_of_element kind = kinds.Top

-- what a cast to a class or an array gives: null stays null
abbrev pub kind_cast : Kind → Kind → Kind
kind_cast class kinds.Null = kinds.Null
kind_cast class kind = class
