-- The solver's table: the chosen numbers by column, the numbers outside by line, and each line the coefficients of the chosen
-- numbers and then the constant; which dictionary it holds, and what a pivot makes of it.
use Rattle.std.specs.Prelude.{◌≡◌, ◌≢◌, ◌↔◌, ℕ, suc, ◌<◌, pos, nat_eq, List, [], length, slice_index_or, Contains}
use Rattle.std.specs.List.{position_or_len}
use Rattle.q128.specs.Fraction.{Fraction}
use Rattle.q128.specs.declared.q.TooWide.{TooWide}
use Rattle.lin_rows.specs.Linear.{Linear}
use Rattle.solver_paths.specs.Choices.{IsOut, Dictionary, IsDictionary}
use Rattle.solver_paths.specs.Pivots.{replaced}
use Rattle.solver_paths.specs.Making.{PivotMakes, IsTooWide, IsNarrow}
use Rattle.lp_lines.specs.Numbers.{IsNumber, place_of}

pub record Tableau : Type 0 where
  pub chosen : List ℕ
  pub outside : List ℕ
  pub lines : List (List Fraction)

abbrev pub line_at : Tableau → ℕ → List Fraction
line_at t i = slice_index_or t.lines i []

-- the number of a line, and that of a column
abbrev pub number_out : Tableau → ℕ → ℕ
number_out t line = slice_index_or t.outside line 0

abbrev pub number_in : Tableau → ℕ → ℕ
number_in t column = slice_index_or t.chosen column 0

-- ---- the dictionary that it holds
-- no two numbers of the list are equal
pub record AreApart (xs : List ℕ) : Type 0 where
  pub each : (i j : ℕ) → i < j → j < length xs → slice_index_or xs i 0 ≢ slice_index_or xs j 0

-- the place of a number
abbrev pub place_in : List ℕ → ℕ → ℕ
place_in xs n = position_or_len (nat_eq n) xs

abbrev pub dictionary_of : Tableau → Dictionary
dictionary_of t = record {
  constant = λ n. place_of (line_at t (place_in t.outside n)) (length t.chosen);
  coefficient = λ n c. place_of (line_at t (place_in t.outside n)) (place_in t.chosen c);
}

-- the table is that of the choice of its columns
pub record IsTableau (rows : List Linear) (t : Tableau) : Type 0 where
  pub lines : length t.lines ≡ length t.outside
  pub widths : (h : ℕ) → h < length t.lines → length (line_at t h) ≡ suc (length t.chosen)
  pub apart : AreApart t.outside
  pub outside : (n : ℕ) → IsOut rows t.chosen n ↔ Contains t.outside n
  pub numbers : (h p : ℕ) → IsNumber (place_of (line_at t h) p)
  pub dictionary : IsDictionary rows t.chosen (dictionary_of t)

-- ---- its pivot
-- a line and a column of the table, where a number other than 0 stands
pub record HasPivotAt (line column : ℕ) (t : Tableau) : Type 0 where
  pub line_within : line < length t.lines
  pub outside_within : line < length t.outside
  pub column_within : column < length t.chosen
  pub widths : (h : ℕ) → h < length t.lines → length (line_at t h) ≡ suc (length t.chosen)
  pub some : (place_of (line_at t line) column).num ≢ pos 0

-- ---- what it says of the problem
-- the pivot of the solver at the choice of the table, none of whose numbers is too wide: the table after it is that of the
-- choice after it
pub record IsPivoted (rows : List Linear) (line column : ℕ) (before after : Tableau) : Type 0 where
  pub narrow : IsNarrow rows before.chosen (dictionary_of before) (number_out before line) (number_in before column)
  pub chosen : after.chosen ≡ replaced (number_out before line) (number_in before column) before.chosen
  pub tableau : IsTableau rows after

-- an operation of the pivot that is too wide
pub record IsWidePivot (rows : List Linear) (line column : ℕ) (t : Tableau) (e : TooWide) : Type 0 where
  pub makes : PivotMakes rows t.chosen (dictionary_of t) (number_out t line) (number_in t column) e
  pub too_wide : IsTooWide e
