-- Descriptors told from other texts by their pieces.
use Rattle.std.specs.Prelude.{ℕ, ◌+◌, ◌==◌, ◌&&◌, ◌||◌, nat_le, Bool, true, false, List, [], ◌∷◌, length, if◌then◌else◌}
use Rattle.std.specs.List.{list_all}
use Rattle.std.specs.Str.{bytes_eq}
use Rattle.descriptors.specs.Grammar.{is_base_letter, is_name_byte}
use Rattle.descriptors.specs.Pieces.{parameters_of, result_of}
use Rattle.descriptors.specs.Texts.{begins, text_dimensions, words_of_all}

-- whether the text is the rest of a class's name and a `;`. Where no part of a name has begun, a byte of one comes next.
abbrev pub ends_name : Bool → List ℕ → Bool
ends_name begun [] = false
ends_name begun (b ∷ text) =
    if is_name_byte b then ends_name true text
    else if begun && b == 47 then ends_name false text else (begun && b == 59) && length text == 0

-- whether the text is a type that is none of an array
abbrev pub is_element : List ℕ → Bool
is_element [] = false
is_element (b ∷ text) = if b == 76 then ends_name false text else is_base_letter b && length text == 0

-- whether the text is a type
abbrev pub is_type : List ℕ → Bool
is_type [] = false
is_type (b ∷ text) = if b == 91 then is_type text else is_element (b ∷ text)

-- whether the text is `V` or a type
abbrev pub is_result : List ℕ → Bool
is_result text = bytes_eq text (86 ∷ []) || is_type text

-- whether the text is a method descriptor, whatever its limits
unfoldable pub is_method_text : List ℕ → Bool
is_method_text desc = begins 40 desc && (list_all is_type (parameters_of desc) && is_result (result_of desc))

-- ---- with the limits

abbrev pub has_few_dimensions : List ℕ → Bool
has_few_dimensions text = nat_le (text_dimensions text) 255

abbrev pub has_few_words : Bool → List (List ℕ) → Bool
has_few_words static types = nat_le (words_of_all types + (if static then 0 else 1)) 255

-- whether the text is the descriptor of a field
unfoldable pub is_field : List ℕ → Bool
is_field text = is_type text && has_few_dimensions text

-- whether the text is the descriptor of a method
unfoldable pub describes : Bool → List ℕ → Bool
describes static desc =
    is_method_text desc
    && ((list_all has_few_dimensions (parameters_of desc) && has_few_dimensions (result_of desc)) && has_few_words static (parameters_of desc))
