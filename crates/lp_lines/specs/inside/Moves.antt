-- A pivot of the table, line by line.
use Rattle.std.specs.Prelude.{◌≡◌, ◌≢◌, ℕ, ◌<◌, List, [], length, set, slice_index_or}
use Rattle.q128.specs.Fraction.{Fraction}
use Rattle.q128.specs.declared.q.TooWide.{TooWide}
use Rattle.lp_lines.specs.Tables.{Tableau, line_at, number_out, number_in}
use Rattle.lp_lines.specs.inside.Lines.{IsSolvedLine, IsNext, FailsSolving, FailsRest}

-- the lines with the solved one put into each but that of the pivot
pub record PutInAll (line column : ℕ) (pivot : List Fraction) (before after : List (List Fraction)) : Type 0 where
  pub size : length after ≡ length before
  pub others : (h : ℕ) → h < length before → h ≢ line → IsNext column pivot (slice_index_or before h []) (slice_index_or after h [])

-- or the operation of it that is too wide
pub data FailsPutting (line column : ℕ) (pivot : List Fraction) (before : List (List Fraction)) (e : TooWide) : Type 0 where
  at : (h : ℕ) → h < length before → h ≢ line → FailsRest column pivot (slice_index_or before h []) e → FailsPutting line column pivot before e

-- the table after the pivot at a line and a column
pub record IsPivotedAt (line column : ℕ) (before after : Tableau) : Type 0 where
  pub chosen : after.chosen ≡ set before.chosen column (number_out before line)
  pub outside : after.outside ≡ set before.outside line (number_in before column)
  pub size : length after.lines ≡ length before.lines
  pub solved : IsSolvedLine column (line_at before line) (line_at after line)
  pub others : (h : ℕ) → h < length before.lines → h ≢ line → IsNext column (line_at before line) (line_at before h) (line_at after h)

-- or the operation of it that is too wide
pub data FailsPivotAt (line column : ℕ) (before : Tableau) (e : TooWide) : Type 0 where
  solving : FailsSolving column (line_at before line) e → FailsPivotAt line column before e
  putting : (h : ℕ) → h < length before.lines → h ≢ line → FailsRest column (line_at before line) (line_at before h) e → FailsPivotAt line column before e
