-- Problems of rows, the choices of as many of their numbers as there are variables, and the dictionary of a choice (Chvátal,
-- Linear Programming, chapter 2; a choice is a basis there, taken by the numbers outside it). A problem is a list of rows,
-- each asked to be at least 0. Its variables are numbered from 0, and its rows take the numbers after them.
use Rattle.std.specs.Prelude.{◌≡◌, ◌↔◌, ℕ, suc, ◌+◌, ◌-◌, ◌<◌, ◌≤◌, pos, nat_eq, if◌then◌else◌, List, [], ◌∷◌, length, map, All, Contains}
use Rattle.std.specs.List.{IsDistinct, list_any, range_with_len}
use Rattle.q128.specs.Fraction.{Fraction, whole, IsSame, IsLowest, plus, times}
use Rattle.lin_rows.specs.Linear.{Linear, row_at}
use Rattle.lin_rows.specs.Points.{value_at}
use Rattle.lin_rows.specs.Rows.{longest_of}

-- ---- the numbers of a problem
-- as many variables as the longest list of coefficients has places
abbrev pub variable_count : List Linear → ℕ
variable_count rows = longest_of rows

-- variables and rows
abbrev pub number_count : List Linear → ℕ
number_count rows = variable_count rows + length rows

-- n is a row's number
pub record IsRow (rows : List Linear) (n : ℕ) : Type 0 where
  pub past_variables : variable_count rows ≤ n
  pub within : n < number_count rows

-- how many rows come up to that of number n
abbrev pub row_number : List Linear → ℕ → ℕ
row_number rows n = suc n - variable_count rows

-- the expression of that row
abbrev pub row_of : List Linear → ℕ → Linear
row_of rows n = row_at rows (row_number rows n)

-- ---- choices
-- the first choice is the variables
abbrev pub first_choice : List Linear → List ℕ
first_choice rows = range_with_len 0 (variable_count rows)

-- n stands outside the choice
pub record IsOut (rows : List Linear) (choice : List ℕ) (n : ℕ) : Type 0 where
  pub within : n < number_count rows
  pub apart : Contains choice n → ⊥

-- the order within a choice has no part in it
abbrev pub AreEqual : List ℕ → List ℕ → Type 0
AreEqual a b = (n : ℕ) → Contains a n ↔ Contains b n

-- values for all numbers, of which each row's is its expression at those of the variables
pub record Solves (rows : List Linear) (x : ℕ → Fraction) : Type 0 where
  pub each : (n : ℕ) → IsRow rows n → IsSame (x n) (value_at (row_of rows n) (whole (pos 1)) (map x (first_choice rows)))

-- ---- dictionaries
-- an expression over the choice for each number outside it: a constant, and a coefficient of each chosen number
pub record Dictionary : Type 0 where
  pub constant : ℕ → Fraction
  pub coefficient : ℕ → ℕ → Fraction

-- the expression of n, where x gives the values of the chosen numbers
abbrev pub expressed : Dictionary → List ℕ → (ℕ → Fraction) → ℕ → Fraction
expressed d [] x n = d.constant n
expressed d (c ∷ cs) x n = plus (times (d.coefficient n c) (x c)) (expressed d cs x n)

-- each number outside has the value of its expression
pub record Expresses (rows : List Linear) (choice : List ℕ) (d : Dictionary) (x : ℕ → Fraction) : Type 0 where
  pub each : (n : ℕ) → IsOut rows choice n → IsSame (x n) (expressed d choice x n)

-- d is the dictionary of the choice: its equations have the solutions of the rows. Its numbers are in lowest terms, so the
-- choice, in whatever order, has one alone.
pub record IsDictionary (rows : List Linear) (choice : List ℕ) (d : Dictionary) : Type 0 where
  pub size : length choice ≡ variable_count rows
  pub distinct : IsDistinct nat_eq choice
  pub below : All (λ (n : ℕ). n < number_count rows) choice
  pub constants : (n : ℕ) → IsLowest (d.constant n)
  pub coefficients : (n c : ℕ) → IsLowest (d.coefficient n c)
  pub same : (x : ℕ → Fraction) → Solves rows x ↔ Expresses rows choice d x

-- the value of n where each chosen number is 0 (the basic solution of the choice)
abbrev pub basic_value : List ℕ → Dictionary → ℕ → Fraction
basic_value choice d n = if list_any (nat_eq n) choice then whole (pos 0) else d.constant n
