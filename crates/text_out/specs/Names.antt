-- How names are printed.
use Rattle.std.specs.Prelude.{ℕ, ◌+◌, ◌/◌, ◌%◌, ◌==◌, ◌&&◌, ◌||◌, not, nat_le, nat_lt, Bool, false, List, [], ◌∷◌, ◌++◌, Option, Some, None, if◌then◌else◌}
use Rattle.std.specs.List.{flat_map}
use Rattle.class_pool.specs.declared.target.Target.{Target}

-- the byte that is marked
abbrev pub is_marked : Option ℕ → ℕ → Bool
is_marked None b = false
is_marked (Some marked) b = b == marked

-- a digit from 0 to f
abbrev pub hex_digit : ℕ → ℕ
hex_digit n = if nat_lt n 10 then 48 + n else 87 + n

-- a byte as `\xHH`
abbrev pub escaped : ℕ → List ℕ
escaped b = 92 ∷ 120 ∷ hex_digit (b / 16) ∷ hex_digit (b % 16) ∷ []

-- a byte outside 33 to 126, a backslash, or one more that is marked, is escaped
abbrev pub shown : (ℕ → Bool) → ℕ → List ℕ
shown is_marked b = if (nat_le 33 b && nat_le b 126) && not (b == 92 || is_marked b) then b ∷ [] else escaped b

abbrev pub name_text : (ℕ → Bool) → List ℕ → List ℕ
name_text is_marked name = flat_map (shown is_marked) name

-- a name, in which no byte is marked
abbrev pub plain_name : List ℕ → List ℕ
plain_name name = name_text (λ b. false) name

-- CLASS.METHOD:DESC, where a `.` of the class and a `:` of the method are escaped
abbrev pub target_text : Target → List ℕ
target_text target =
    name_text (λ b. b == 46) target.class ++ (46 ∷ name_text (λ b. b == 58) target.method ++ (58 ∷ plain_name target.desc))
