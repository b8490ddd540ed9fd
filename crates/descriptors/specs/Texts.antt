-- What the text of a type says.
use Rattle.std.specs.Prelude.{ℕ, suc, ◌-◌, ◌==◌, ◌||◌, Bool, false, List, [], ◌∷◌, length, take, drop, codes, sum_by, if◌then◌else◌}
use Rattle.std.specs.List.{list_any}
use Rattle.std.specs.Str.{bytes_eq}
use Rattle.descriptors.specs.Pieces.{pieces}

-- the text begins with this byte
abbrev pub begins : ℕ → List ℕ → Bool
begins byte [] = false
begins byte (x ∷ xs) = x == byte

-- an array's descriptor begins with an opening bracket (JVMS 4.3.2), and so does its name (JVMS 4.4.1)
abbrev pub is_array : List ℕ → Bool
is_array text = begins 91 text

-- the descriptor of a class type is L, the name and a semicolon (JVMS 4.3.2)
abbrev pub is_class : List ℕ → Bool
is_class text = begins 76 text

abbrev pub is_reference : List ℕ → Bool
is_reference text = is_array text || is_class text

-- the name in the descriptor of a reference type (JVMS 4.4.1)
abbrev pub name_of : List ℕ → List ℕ
name_of text = if is_array text then text else take (length (drop 1 text) - 1) (drop 1 text)

-- how many opening brackets it begins with
abbrev pub text_dimensions : List ℕ → ℕ
text_dimensions [] = 0
text_dimensions (b ∷ text) = if b == 91 then suc (text_dimensions text) else 0

-- how many words a value takes: two for a long (J) or a double (D)
abbrev pub text_words : List ℕ → ℕ
text_words text = if bytes_eq text (codes "J") || bytes_eq text (codes "D") then 2 else 1

-- how many words values of all these types take
abbrev pub words_of_all : List (List ℕ) → ℕ
words_of_all types = sum_by text_words types

-- float (F), double (D), or an array of one of them, of whatever dimensions
abbrev pub has_float : List ℕ → Bool
has_float [] = false
has_float (b ∷ text) = if b == 91 then has_float text else b == 70 || b == 68

-- one of the types of a descriptor is such a type
abbrev pub names_float : List ℕ → Bool
names_float desc = list_any has_float (pieces desc)
