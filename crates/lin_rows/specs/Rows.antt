-- The expressions of rows, and what callers of sums of rows see to: each variable has a place.
use Rattle.std.specs.Prelude.{ℕ, ◌≤◌, max, List, [], ◌∷◌, length, map, All}
use Rattle.lin_rows.specs.declared.row.Row.{Row}
use Rattle.lin_rows.specs.Linear.{Linear}

-- the expressions of rows
abbrev pub lins : List Row → List Linear
lins rows = map (λ (r : Row). r.lin) rows

-- each variable of the rows has one of so many places
pub record HaveRoom (places : ℕ) (rows : List Linear) : Type 0 where
  pub each : All (λ (l : Linear). length l.coefficients ≤ places) rows

-- how many places the longest list of coefficients takes
abbrev pub longest_of : List Linear → ℕ
longest_of [] = 0
longest_of (l ∷ rows) = max (length l.coefficients) (longest_of rows)
