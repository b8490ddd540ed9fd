-- Kinds of types, by the text that a descriptor has for each (JVMS 4.3).
use Rattle.std.specs.Prelude.{ℕ, ◌==◌, ◌||◌, Bool, false, List, [], ◌∷◌, codes}
use Rattle.std.specs.Str.{bytes_eq}
use Rattle.descriptors.specs.Texts.{is_reference}

abbrev pub is_type : List ℕ → List ℕ → Bool
is_type type text = bytes_eq text type

-- the types that are computed with as ints: B, C, I, S and Z (JVMS 2.11.1)
abbrev pub is_int_letter : ℕ → Bool
is_int_letter b = (b == 66 || b == 67) || (b == 73 || b == 83) || b == 90

abbrev pub is_int_type : List ℕ → Bool
is_int_type (b ∷ []) = is_int_letter b
is_int_type text = false

-- a class or an array
abbrev pub is_reference_type : List ℕ → Bool
is_reference_type text = is_reference text

-- float and double aren't analysed
abbrev pub is_float_type : List ℕ → Bool
is_float_type text = is_type (codes "F") text || is_type (codes "D") text
