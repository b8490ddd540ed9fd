-- The dictionary of the first choice, and how a pivot makes each next dictionary from the one before.
use Rattle.std.specs.Prelude.{ℕ, pos, List, Contains}
use Rattle.q128.specs.Fraction.{whole, IsSame, IsLowest, plus, negative, times}
use Rattle.lin_rows.specs.Linear.{Linear, coefficient_of}
use Rattle.solver_paths.specs.Choices.{row_of, first_choice, IsOut, Dictionary, IsDictionary}
use Rattle.solver_paths.specs.Pivots.{replaced}
use Rattle.solver_paths.specs.Making.{Place, number_at, IsOther, IsBeside}

-- the rows themselves, as expressions over the variables
abbrev pub rows_dictionary : List Linear → Dictionary
rows_dictionary rows = record {
  constant = λ n. whole (row_of rows n).constant;
  coefficient = λ n c. whole (coefficient_of (row_of rows n) c);
}

-- The numbers of e are those of d after the pivot (r, c), as rationals. With k the coefficient of c in the expression of r:
-- the expression of r is solved for c, and the result put into each other one.
pub record IsPivoted (rows : List Linear) (choice : List ℕ) (d : Dictionary) (r c : ℕ) (e : Dictionary) : Type 0 where
  pub unit : IsSame (times (e.coefficient c r) (d.coefficient r c)) (whole (pos 1))
  pub solved : (p : Place) → IsOther choice c p → IsSame (times (number_at e c p) (d.coefficient r c)) (negative (number_at d r p))
  pub shares : (n : ℕ) → IsBeside rows choice r n → IsSame (times (e.coefficient n r) (d.coefficient r c)) (d.coefficient n c)
  pub rests : (n : ℕ) (p : Place) → IsBeside rows choice r n → IsOther choice c p → IsSame (plus (number_at e n p) (times (e.coefficient n r) (number_at d r p))) (number_at d n p)
  pub constants : (n : ℕ) → IsLowest (e.constant n)
  pub coefficients : (n s : ℕ) → IsLowest (e.coefficient n s)

-- the dictionary after a pivot is that of the choice after it
abbrev pub PivotsKeepSolutions : Type 0
PivotsKeepSolutions = (rows : List Linear) (choice : List ℕ) (d e : Dictionary) (r c : ℕ) → IsDictionary rows choice d → IsOut rows choice r → Contains choice c → IsPivoted rows choice d r c e → IsDictionary rows (replaced r c choice) e

-- the rows are the dictionary of the first choice
abbrev pub RowsStart : Type 0
RowsStart = (rows : List Linear) → IsDictionary rows (first_choice rows) (rows_dictionary rows)
