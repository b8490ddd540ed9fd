-- The modified UTF-8 text of class files (JVMS 4.4.7).
use Rattle.std.specs.Prelude.{ℕ, Bool, true, ◌&&◌, nat_le, List, [], ◌∷◌, if◌then◌else◌}

-- a byte of the form 10xxxxxx
abbrev pub is_continuation : ℕ → Bool
is_continuation b = nat_le 128 b && nat_le b 191

-- the text is a list of bytes 1 to 127, pairs 110xxxxx 10xxxxxx and triples 1110xxxx 10xxxxxx 10xxxxxx
abbrev pub is_modified_utf8 : List ℕ → Bool
is_modified_utf8 [] = true
is_modified_utf8 (a ∷ []) = nat_le 1 a && nat_le a 127
is_modified_utf8 (a ∷ b ∷ []) =
    if nat_le a 127 then nat_le 1 a && is_modified_utf8 (b ∷ []) else (nat_le 192 a && nat_le a 223) && is_continuation b
is_modified_utf8 (a ∷ b ∷ c ∷ text) =
    if nat_le a 127 then nat_le 1 a && is_modified_utf8 (b ∷ c ∷ text)
    else if nat_le a 223 then (nat_le 192 a && is_continuation b) && is_modified_utf8 (c ∷ text)
    else ((nat_le 224 a && nat_le a 239) && (is_continuation b && is_continuation c)) && is_modified_utf8 text
