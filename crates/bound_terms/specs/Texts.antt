-- The texts of bounds.
use Rattle.std.specs.Prelude.{ℕ, suc, ◌==◌, Bool, true, false, ℤ, pos, negsuc, List, [], ◌∷◌, ◌++◌, codes, decimal, unsigned_abs, if◌then◌else◌}
use Rattle.std.specs.List.{flat_map}
use Rattle.lin_rows.specs.Linear.{Linear}
use Rattle.bound_terms.specs.Terms.{Floored, Term, Number, Floor, Total, Product, Greatest, Power, Geometric, Terms, none, more}

-- texts with a text between each two
abbrev pub joined : List ℕ → List (List ℕ) → List ℕ
joined between [] = []
joined between (x ∷ xs) = x ++ flat_map (λ y. between ++ y) xs

-- ---- expressions
abbrev pub is_below_zero : ℤ → Bool
is_below_zero (pos n) = false
is_below_zero (negsuc n) = true

-- a number of times the size of an argument; a number 1 is left out
abbrev pub times_text : ℕ → ℕ → List ℕ
times_text k v = (if k == 1 then [] else decimal k ++ codes "*") ++ codes "a" ++ decimal v

-- the terms that aren't 0, from variable v on and then the constant, each with whether it is taken off and its text
-- without a sign
abbrev pub parts_from : ℕ → List ℤ → ℤ → List (Bool × List ℕ)
parts_from v [] k = if unsigned_abs k == 0 then [] else (is_below_zero k, decimal (unsigned_abs k)) ∷ []
parts_from v (c ∷ cs) k =
    if unsigned_abs c == 0 then parts_from (suc v) cs k
    else (is_below_zero c, times_text (unsigned_abs c) v) ∷ parts_from (suc v) cs k

abbrev pub first_part : Bool × List ℕ → List ℕ
first_part p = (if p.0 then codes "-" else []) ++ p.1

abbrev pub later_part : Bool × List ℕ → List ℕ
later_part p = (if p.0 then codes " - " else codes " + ") ++ p.1

abbrev pub signed_sum : List (Bool × List ℕ) → List ℕ
signed_sum [] = codes "0"
signed_sum (p ∷ ps) = first_part p ++ flat_map later_part ps

-- `2*a0 - a1 + 3`
abbrev pub linear_text : Linear → List ℕ
linear_text l = signed_sum (parts_from 0 l.coefficients l.constant)

-- `nat(LIN)`, and `(nat(LIN)/D)` where the divisor isn't 1
abbrev pub floored_text : Floored → List ℕ
floored_text n =
    if n.divisor == 1 then codes "nat(" ++ linear_text n.expression ++ codes ")"
    else codes "(nat(" ++ linear_text n.expression ++ codes ")/" ++ decimal n.divisor ++ codes ")"

-- ---- bounds
-- a sum of monomials
abbrev pub total_text : List (List ℕ) → List ℕ
total_text [] = codes "0"
total_text (x ∷ xs) = joined (codes " + ") (x ∷ xs)

-- a coefficient and atoms: a coefficient 1 before an atom is left out
abbrev pub is_one : Term → Bool
is_one (Number n) = n == 1
is_one t = false

abbrev pub is_left_out : Terms → Bool
is_left_out none = false
is_left_out (more t none) = false
is_left_out (more t (more u ts)) = is_one t

abbrev pub product_text : Bool → List (List ℕ) → List ℕ
product_text is_left_out [] = codes "1"
product_text true (x ∷ xs) = joined (codes "*") xs
product_text false (x ∷ xs) = joined (codes "*") (x ∷ xs)

abbrev mutual
  pub text_of : Term → List ℕ
  text_of (Number n) = decimal n
  text_of (Floor n) = floored_text n
  text_of (Total ts) = total_text (texts_of ts)
  text_of (Product ts) = product_text (is_left_out ts) (texts_of ts)
  text_of (Greatest ts) = codes "max(" ++ joined (codes ",") (texts_of ts) ++ codes ")"
  text_of (Power b n) = codes "pow(" ++ decimal b ++ codes "," ++ floored_text n ++ codes ")"
  text_of (Geometric b n) = codes "geo(" ++ decimal b ++ codes "," ++ floored_text n ++ codes ")"

  pub texts_of : Terms → List (List ℕ)
  texts_of none = []
  texts_of (more t ts) = text_of t ∷ texts_of ts
