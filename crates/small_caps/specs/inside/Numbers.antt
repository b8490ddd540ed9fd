-- The numbers of the cap that a sum makes.
use Rattle.std.specs.Prelude.{◌≡◌, ◌≢◌, ℕ, ℤ, pos, ◌-ℤ◌, ◌*ℤ◌, ◌≤ℤ◌, List, Contains, slice_index_or}
use Rattle.q128.specs.Fraction.{Fraction, whole, IsSame}
use Rattle.q128.specs.Laws.{IsNarrow}
use Rattle.lin_rows.specs.Linear.{Linear, coefficient_of}
use Rattle.lin_rows.specs.Combining.{Combination}

-- x is a whole number
abbrev pub IsWhole : Fraction → Type 0
IsWhole x = (z : ℤ) × IsSame x (whole z)

-- each number of a sum is whole
pub record IsWholeSum (s : Combination) : Type 0 where
  pub coefficients : (v : ℕ) → IsWhole (slice_index_or s.coefficients v (whole (pos 0)))
  pub constant : IsWhole s.constant

-- the sum's number is k times the distance of x to the expression's own
abbrev pub IsCoefficient : ℤ → ℤ → ℤ → ℤ → Type 0
IsCoefficient sum own k x = sum ≡ k *ℤ (x -ℤ own)

-- or at most that, but not for x less 1
pub record IsRounded (sum own k x : ℤ) : Type 0 where
  pub under : sum ≤ℤ (k *ℤ (x -ℤ own))
  pub rounded : sum ≤ℤ (k *ℤ ((x -ℤ pos 1) -ℤ own)) → ⊥

-- x is the coefficient of a variable
pub record IsCoefficientAt (s : Combination) (l : Linear) (entry : List ℕ) (k : ℤ) (v : ℕ) (x : ℤ) : Type 0 where
  pub value : IsSame (slice_index_or s.coefficients v (whole (pos 0))) (whole (k *ℤ (x -ℤ coefficient_of l v)))
  pub fits : IsNarrow x
  pub fits_excess : IsNarrow (k *ℤ (x -ℤ coefficient_of l v))
  pub over : x ≢ pos 0 → Contains entry v

pub record AreCoefficients (s : Combination) (l : Linear) (entry : List ℕ) (k : ℤ) (cs : List ℤ) : Type 0 where
  pub each : (v : ℕ) → IsCoefficientAt s l entry k v (slice_index_or cs v (pos 0))
