-- Linear expressions over numbered variables with whole coefficients (Schrijver, Theory of Linear and Integer
-- Programming, section 7.1).
use Rattle.std.specs.Prelude.{ℕ, ◌-◌, ℤ, pos, List, [], slice_index_or}

-- the coefficients by variable from 0, and the constant
pub record Linear : Type 0 where
  pub coefficients : List ℤ
  pub constant : ℤ

-- the coefficient of a variable, 0 past the list
abbrev pub coefficient_of : Linear → ℕ → ℤ
coefficient_of l v = slice_index_or l.coefficients v (pos 0)

-- the expression 0
abbrev pub nothing : Linear
nothing = record { coefficients = []; constant = pos 0 }

-- the row of a number, counted from 1; each asks its expression to be at least 0
abbrev pub row_at : List Linear → ℕ → Linear
row_at rows n = slice_index_or rows (n - 1) nothing
