-- An expression, of which the last term is still read.
use Rattle.std.specs.Prelude.{ℕ, ◌-◌, ◌^◌, ◌==◌, ◌&&◌, nat_le, nat_lt, Bool, true, false, ℤ, pos, neg_ℤ, Option, Some, None, List, [], ◌∷◌, ◌++◌, length, replicate, if◌then◌else◌}
use Rattle.bound_text.specs.inside.Runs.{is_digit, digit_onto, number_or}

-- the terms so far; of the last one the sign, the number in front of a size, and which size it is
pub record Drawn : Type 0 where
  pub coefficients : List ℤ
  pub constant : ℤ
  pub is_negative : Bool
  pub factor : Option ℕ
  pub variable : Option ℕ

abbrev pub nothing_drawn : Drawn
nothing_drawn = record { coefficients = []; constant = pos 0; is_negative = false; factor = None; variable = None }

-- a number with its sign, 0 where the machine doesn't hold it
abbrev pub signed : Bool → ℕ → ℤ
signed true n = if nat_le n (2 ^ 127) then neg_ℤ (pos n) else pos 0
signed false n = if nat_lt n (2 ^ 127) then pos n else pos 0

-- a coefficient behind the others, and zeros between
abbrev pub placed : List ℤ → ℕ → ℤ → List ℤ
placed cs v c = if nat_le (length cs) v && nat_lt v (2 ^ 32 - 1) then (cs ++ replicate (v - length cs) (pos 0)) ++ c ∷ [] else cs

-- with the last term, and the sign of the next one
abbrev pub settled_by : Option ℕ → Option ℕ → Bool → Drawn → Drawn
settled_by None None sign d = record { coefficients = d.coefficients; constant = d.constant; is_negative = sign; factor = None; variable = None }
settled_by (Some n) None sign d = record { coefficients = d.coefficients; constant = signed d.is_negative n; is_negative = sign; factor = None; variable = None }
settled_by factor (Some v) sign d =
    record { coefficients = placed d.coefficients v (signed d.is_negative (number_or 1 factor)); constant = d.constant; is_negative = sign; factor = None; variable = None }

abbrev pub settled : Bool → Drawn → Drawn
settled sign d = settled_by d.factor d.variable sign d

-- a digit belongs to the number of the size, or to the number in front
abbrev pub with_digit_by : Option ℕ → ℕ → Drawn → Drawn
with_digit_by (Some v) byte d = record { coefficients = d.coefficients; constant = d.constant; is_negative = d.is_negative; factor = d.factor; variable = Some (digit_onto v byte) }
with_digit_by None byte d = record { coefficients = d.coefficients; constant = d.constant; is_negative = d.is_negative; factor = Some (digit_onto (number_or 0 d.factor) byte); variable = None }

abbrev pub with_size : Drawn → Drawn
with_size d = record { coefficients = d.coefficients; constant = d.constant; is_negative = d.is_negative; factor = d.factor; variable = Some 0 }

abbrev pub drawn_with : ℕ → Drawn → Drawn
drawn_with byte d =
    if is_digit byte then with_digit_by d.variable byte d
    else if byte == 97 then with_size d
    else if byte == 45 then settled true d
    else if byte == 43 then settled false d
    else d
