-- A method that a word names.
use Rattle.std.specs.Prelude.{ℕ, ◌+◌, ◌*◌, ◌-◌, ◌==◌, ◌&&◌, ◌||◌, Bool, true, false, List, [], ◌∷◌, Option, Some, None, nat_le, if◌then◌else◌}
use Rattle.std.specs.Option.{option_map, option_and_then}
use Rattle.class_pool.specs.declared.target.Target.{Target}
use Rattle.descriptors.specs.Tests.{is_method_text}

abbrev pub is_empty : List ℕ → Bool
is_empty [] = true
is_empty (b ∷ bytes) = false

-- what stands before and behind the first `.`
abbrev pub at_dot : List ℕ → Option (List ℕ × List ℕ)
at_dot [] = None
at_dot (b ∷ word) = if b == 46 then Some ([], word) else option_map (λ parts. (b ∷ parts.0, parts.1)) (at_dot word)

-- what stands before the `:` of the first `:(`, and from its `(` on
abbrev pub at_colon : List ℕ → Option (List ℕ × List ℕ)
at_colon [] = None
at_colon (a ∷ []) = None
at_colon (a ∷ b ∷ word) =
    if a == 58 && b == 40 then Some ([], b ∷ word) else option_map (λ parts. (a ∷ parts.0, parts.1)) (at_colon (b ∷ word))

-- the number of a hexadecimal digit
abbrev pub hex_value : ℕ → Option ℕ
hex_value b =
    if nat_le 48 b && nat_le b 57 then Some (b - 48) else if nat_le 97 b && nat_le b 102 then Some (b - 87)
    else if nat_le 65 b && nat_le b 70 then Some (b - 55) else None

-- the byte of two hexadecimal digits
abbrev pub hex_byte : ℕ → ℕ → Option ℕ
hex_byte high low = option_and_then (λ h. option_map (λ l. 16 * h + l) (hex_value low)) (hex_value high)

-- the first byte of a name and what stands behind it, where `\xHH` names a byte
abbrev pub first_byte : List ℕ → Option (ℕ × List ℕ)
first_byte [] = None
first_byte (b ∷ x ∷ high ∷ low ∷ text) =
    if b == 92 then (if x == 120 then option_map (λ byte. (byte, text)) (hex_byte high low) else None)
    else Some (b, x ∷ high ∷ low ∷ text)
first_byte (b ∷ text) = if b == 92 then None else Some (b, text)

-- the bytes of a name; none where a backslash isn't that of a `\xHH`
abbrev pub name_of : List ℕ → Option (List ℕ)
name_of [] = Some []
name_of (b ∷ x ∷ high ∷ low ∷ text) =
    if b == 92 then (if x == 120 then option_and_then (λ byte. option_map (λ name. byte ∷ name) (name_of text)) (hex_byte high low) else None)
    else option_map (λ name. b ∷ name) (name_of (x ∷ high ∷ low ∷ text))
name_of (b ∷ text) = if b == 92 then None else option_map (λ name. b ∷ name) (name_of text)

-- the three parts of a target as they stand in a word
pub record Parts : Type 0 where
  pub class : List ℕ
  pub method : List ℕ
  pub desc : List ℕ

-- the parts, where neither the class nor the method is empty
abbrev pub named : List ℕ → List ℕ × List ℕ → Option Parts
named class parts = if is_empty class || is_empty parts.0 then None else Some (record { class = class; method = parts.0; desc = parts.1 })

-- CLASS.METHOD:DESC, cut at the first `.` and then at the first `:(` behind it
abbrev pub parts_of : List ℕ → Option Parts
parts_of word = option_and_then (λ dotted. option_and_then (named dotted.0) (at_colon dotted.1)) (at_dot word)

-- the names of the parts, where the descriptor is one of a method
abbrev pub target_from : Parts → Option Target
target_from parts =
    option_and_then (λ class. option_and_then (λ method. option_and_then (λ desc.
    if is_method_text desc then Some (record { class = class; method = method; desc = desc }) else None)
    (name_of parts.desc)) (name_of parts.method)) (name_of parts.class)

-- the target that a word names
unfoldable pub target_of : List ℕ → Option Target
target_of word = option_and_then target_from (parts_of word)
