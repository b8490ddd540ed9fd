-- When multipliers prove a row from given rows (Farkas' lemma, the direction that is used to check; Schrijver, section 7.3).
use Rattle.std.specs.Prelude.{ℕ, ◌<◌, ◌≤◌, pos, ◌≤ℤ◌, ◌<ℤ◌, ◌⊎◌, List, [], ◌∷◌, length, All, slice_index_or}
use Rattle.q128.specs.Fraction.{Fraction, whole, IsSame, IsAtMost, plus, times}
use Rattle.lin_rows.specs.Linear.{Linear, coefficient_of, row_at}

-- multipliers: row numbers, each with a factor
abbrev pub Multipliers : Type 0
Multipliers = List (ℕ × Fraction)

-- the coefficient of a variable in the sum of the rows times their factors
abbrev pub sum_coefficient : List Linear → Multipliers → ℕ → Fraction
sum_coefficient rows [] v = whole (pos 0)
sum_coefficient rows (p ∷ m) v = plus (times p.1 (whole (coefficient_of (row_at rows p.0) v))) (sum_coefficient rows m v)

-- the constant of that sum
abbrev pub sum_constant : List Linear → Multipliers → Fraction
sum_constant rows [] = whole (pos 0)
sum_constant rows (p ∷ m) = plus (times p.1 (whole (row_at rows p.0).constant)) (sum_constant rows m)

-- each number is one of so many rows, counted from 1
pub record AreRowNumbers (count : ℕ) (m : Multipliers) : Type 0 where
  pub each : All (λ (p : ℕ × Fraction). (0 < p.0) × (p.0 ≤ count)) m

-- no factor is negative
abbrev pub NotNegative : Multipliers → Type 0
NotNegative m = All (λ (p : ℕ × Fraction). pos 0 ≤ℤ p.1.num) m

-- a sum that was made is the sum of the rows times their factors
pub record IsSum (rows : List Linear) (m : Multipliers) (coefficients : List Fraction) (constant : Fraction) : Type 0 where
  pub coefficient : (v : ℕ) → IsSame (slice_index_or coefficients v (whole (pos 0))) (sum_coefficient rows m v)
  pub constant_is : IsSame constant (sum_constant rows m)

-- the numbers are rows, the factors aren't negative, and the sum has the goal's coefficients and at most its constant
pub record Reaches (rows : List Linear) (m : Multipliers) (goal : Linear) : Type 0 where
  pub numbers : AreRowNumbers (length rows) m
  pub not_negative : NotNegative m
  pub coefficients : (v : ℕ) → IsSame (sum_coefficient rows m v) (whole (coefficient_of goal v))
  pub constant : IsAtMost (sum_constant rows m) (whole goal.constant)

-- the numbers are rows, the factors aren't negative, and the sum has no coefficient and a negative constant: the rows
-- contradict each other
pub record Contradicts (rows : List Linear) (m : Multipliers) : Type 0 where
  pub numbers : AreRowNumbers (length rows) m
  pub not_negative : NotNegative m
  pub coefficients : (v : ℕ) → IsSame (sum_coefficient rows m v) (whole (pos 0))
  pub constant : (sum_constant rows m).num <ℤ pos 0

-- the multipliers prove the row from the given rows
abbrev pub Proves : List Linear → Multipliers → Linear → Type 0
Proves rows m goal = Reaches rows m goal ⊎ Contradicts rows m
