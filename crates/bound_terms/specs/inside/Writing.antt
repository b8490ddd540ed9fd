-- What is left of a text while it is written.
use Rattle.std.specs.Prelude.{ℕ, ◌==◌, Bool, true, false, ℤ, List, [], ◌∷◌, ◌++◌, codes, unsigned_abs, if◌then◌else◌}
use Rattle.std.specs.List.{flat_map}
use Rattle.bound_terms.specs.Texts.{is_below_zero, times_text, joined, first_part, later_part, signed_sum}

-- the parts of a sum, of which the first has no space around its sign
abbrev pub sum_behind : Bool → List (Bool × List ℕ) → List ℕ
sum_behind true ps = signed_sum ps
sum_behind false ps = flat_map later_part ps

-- one part, as it is put in front of others
abbrev pub part_text : Bool → Bool × List ℕ → List ℕ
part_text true p = first_part p
part_text false p = later_part p

-- the text of a sign
abbrev pub sign_text : Bool → Bool → List ℕ
sign_text true is_negative = if is_negative then codes "-" else []
sign_text false is_negative = if is_negative then codes " - " else codes " + "

-- a term in front of others, where it isn't 0
abbrev pub with_term : ℤ → ℕ → List (Bool × List ℕ) → List (Bool × List ℕ)
with_term c v ps = if unsigned_abs c == 0 then ps else (is_below_zero c, times_text (unsigned_abs c) v) ∷ ps

-- texts, of which the first has nothing in front
abbrev pub joined_behind : Bool → List ℕ → List (List ℕ) → List ℕ
joined_behind true between xs = joined between xs
joined_behind false between xs = flat_map (λ y. between ++ y) xs
