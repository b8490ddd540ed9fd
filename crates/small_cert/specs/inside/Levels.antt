-- Sums for a multiple of coefficients.
use Rattle.std.specs.Prelude.{ℤ, ◌*ℤ◌, List, map, All}
use Rattle.q128.specs.Fraction.{IsAtMost}
use Rattle.q128.specs.Laws.{IsNarrow}
use Rattle.lin_rows.specs.Linear.{Linear}
use Rattle.lin_rows.specs.Proving.{Multipliers}
use Rattle.lin_rows.specs.Combining.{Combination, HasCoefficients}
use Rattle.small_sums.specs.Sums.{IsSmallSum}
use Rattle.small_cert.specs.Least.{expression_of}

-- k times each number
abbrev pub scaled_list : ℤ → List ℤ → List ℤ
scaled_list k cs = map (λ c. k *ℤ c) cs

-- the rows times m have the sum s, with k times the coefficients, which fit
pub record IsMatchBy (rows : List Linear) (cs : List ℤ) (k : ℤ) (m : Multipliers) (s : Combination) : Type 0 where
  pub fits : All IsNarrow (scaled_list k cs)
  pub small : IsSmallSum rows 2 m s
  pub same : HasCoefficients s (expression_of (scaled_list k cs))

pub record IsLeastMatchBy (rows : List Linear) (cs : List ℤ) (k : ℤ) (m : Multipliers) (s : Combination) : Type 0 where
  pub matching : IsMatchBy rows cs k m s
  pub least : (n : Multipliers) (u : Combination) → IsMatchBy rows cs k n u → IsAtMost s.constant u.constant

abbrev pub HasNoneBy : List Linear → List ℤ → ℤ → Type 0
HasNoneBy rows cs k = (m : Multipliers) (s : Combination) → IsMatchBy rows cs k m s → ⊥
