-- The order of expressions by their coefficients: fewer non-zero ones come first, then lower positions, then coefficients
-- in the order 1, -1, 2, -2 and so on.
use Rattle.std.specs.Prelude.{◌≡◌, ◌⊎◌, ℕ, suc, ◌+◌, ◌*◌, ◌-◌, ◌<◌, ℤ, pos, negsuc, List, [], ◌∷◌, ◌++◌, length, map, if◌then◌else◌}
use Rattle.std.specs.Ordering.{int_eq}
use Rattle.lin_rows.specs.Linear.{Linear}

-- the non-zero coefficients with their variables, of which the first is v
abbrev pub terms_from : ℕ → List ℤ → List (ℕ × ℤ)
terms_from v [] = []
terms_from v (c ∷ cs) = if int_eq c (pos 0) then terms_from (suc v) cs else (v, c) ∷ terms_from (suc v) cs

abbrev pub terms_of : Linear → List (ℕ × ℤ)
terms_of l = terms_from 0 l.coefficients

-- 1, -1, 2, -2 and so on have the ranks 0, 1, 2, 3
abbrev pub rank_of : ℤ → ℕ
rank_of (pos n) = 2 * (n - 1)
rank_of (negsuc n) = 2 * n + 1

-- how many there are, then their variables, then their ranks
abbrev pub key_of : Linear → List ℕ
key_of l = length (terms_of l) ∷ (map (λ (t : ℕ × ℤ). t.0) (terms_of l) ++ map (λ (t : ℕ × ℤ). rank_of t.1) (terms_of l))

-- the numbers are compared one after another
abbrev pub Precedes : List ℕ → List ℕ → Type 0
Precedes [] [] = ⊥
Precedes [] (y ∷ ys) = Unit {0}
Precedes (x ∷ xs) [] = ⊥
Precedes (x ∷ xs) (y ∷ ys) = (x < y) ⊎ ((x ≡ y) × Precedes xs ys)

pub record IsBefore (a b : Linear) : Type 0 where
  pub less : Precedes (key_of a) (key_of b)
