-- The table of the first choice: the rows themselves, as expressions over the variables.
use Rattle.std.specs.Prelude.{ℕ, List, [], ◌∷◌, ◌++◌, map, All}
use Rattle.std.specs.List.{range_with_len}
use Rattle.q128.specs.Fraction.{Fraction, whole}
use Rattle.lin_rows.specs.Linear.{Linear, coefficient_of}
use Rattle.lp_lines.specs.Numbers.{IsNumber}

-- the coefficients of the variables from 0
abbrev pub coefficients_to : ℕ → Linear → List Fraction
coefficients_to n l = map (λ v. whole (coefficient_of l v)) (range_with_len 0 n)

abbrev pub first_line : ℕ → Linear → List Fraction
first_line n l = coefficients_to n l ++ whole l.constant ∷ []

abbrev pub first_lines : ℕ → List Linear → List (List Fraction)
first_lines n rows = map (first_line n) rows

abbrev pub AreNumbers : List (List Fraction) → Type 0
AreNumbers ls = All (λ (l : List Fraction). All IsNumber l) ls
