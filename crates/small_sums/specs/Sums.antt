-- Small sums of rows: a few rows, each once or twice, added one after another in 128 bits (certificates by Farkas' lemma
-- with small multipliers; Schrijver, Theory of Linear and Integer Programming, section 7.3).
use Rattle.std.specs.Prelude.{◌≡◌, ◌⊎◌, ℕ, ◌≤◌, pos, List, length, map, All, Ok}
use Rattle.std.specs.List.Sorted.{IsStrictlyIncreasing}
use Rattle.q128.specs.Fraction.{Fraction, whole, IsAtMost}
use Rattle.q128.specs.Laws.{IsNarrow}
use Rattle.lin_rows.specs.Linear.{Linear}
use Rattle.lin_rows.specs.Proving.{Multipliers, AreRowNumbers}
use Rattle.lin_rows.specs.Combining.{Combination, zeros, rows_added, HasCoefficients}
use Rattle.lin_rows.specs.Rows.{longest_of}

-- a factor of a row is 1 or 2
abbrev pub IsFactor : Fraction → Type 0
IsFactor q = (q ≡ whole (pos 1)) ⊎ (q ≡ whole (pos 2))

-- the numbers of the rows that are added
abbrev pub numbers_of : Multipliers → List ℕ
numbers_of m = map (λ (p : ℕ × Fraction). p.0) m

-- At most so many different rows, each times 1 or 2, have the sum s. They are added in the order of their numbers, and
-- no number that is made on the way leaves 128 bits.
pub record IsSmallSum (rows : List Linear) (most : ℕ) (m : Multipliers) (s : Combination) : Type 0 where
  pub few : length m ≤ most
  pub rising : IsStrictlyIncreasing (numbers_of m)
  pub numbers : AreRowNumbers (length rows) m
  pub factors : All (λ (p : ℕ × Fraction). IsFactor p.1) m
  pub counts : rows_added rows (zeros (longest_of rows)) m ≡ Ok s

-- a small sum of at most two rows with the coefficients of t
pub record IsMatch (rows : List Linear) (t : Linear) (m : Multipliers) (s : Combination) : Type 0 where
  pub small : IsSmallSum rows 2 m s
  pub same : HasCoefficients s t

-- and none of them has a lesser constant
pub record IsLeastMatch (rows : List Linear) (t : Linear) (m : Multipliers) (s : Combination) : Type 0 where
  pub matching : IsMatch rows t m s
  pub least : (n : Multipliers) (u : Combination) → IsMatch rows t n u → IsAtMost s.constant u.constant

-- there is none
abbrev pub HasNoMatch : List Linear → Linear → Type 0
HasNoMatch rows t = (m : Multipliers) (s : Combination) → IsMatch rows t m s → ⊥

-- ---- expressions in 128 bits
pub record Fits (l : Linear) : Type 0 where
  pub coefficients : All IsNarrow l.coefficients
  pub constant : IsNarrow l.constant
