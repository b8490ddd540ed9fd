-- Expressions without their coefficients of entry sizes.
use Rattle.std.specs.Prelude.{◌≡◌, ℕ, ℤ, pos, List, length, Contains}
use Rattle.lin_rows.specs.Linear.{Linear, coefficient_of, row_at}

-- at a variable
pub record IsMaskedAt (entry : List ℕ) (v : ℕ) (own masked : ℤ) : Type 0 where
  pub inside : Contains entry v → masked ≡ pos 0
  pub outside : (Contains entry v → ⊥) → masked ≡ own

pub record IsMasked (entry : List ℕ) (l masked : Linear) : Type 0 where
  pub each : (v : ℕ) → IsMaskedAt entry v (coefficient_of l v) (coefficient_of masked v)

-- row by row
pub record AreMasked (entry : List ℕ) (rows masked : List Linear) : Type 0 where
  pub count : length masked ≡ length rows
  pub each : (n : ℕ) → IsMasked entry (row_at rows n) (row_at masked n)
