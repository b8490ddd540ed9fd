-- Small inequalities: l ≥ 0 is small where some small sum of at most two rows has the coefficients of l, or of 2 * l, and
-- at most the constant of that multiple.
use Rattle.std.specs.Prelude.{◌≡◌, ◌⊎◌, ℕ, ℤ, pos, negsuc, List, All}
use Rattle.std.specs.List.{AllZip}
use Rattle.q128.specs.Fraction.{Fraction, whole, IsSame, IsAtMost, IsQuotient, plus, times}
use Rattle.q128.specs.Laws.{IsNarrow}
use Rattle.lin_rows.specs.Linear.{Linear}
use Rattle.lin_rows.specs.Proving.{Multipliers}
use Rattle.lin_rows.specs.Combining.{Combination, IsUnder, HasCoefficients}
use Rattle.lin_rows.specs.Transitions.{lin_times, lin_constant}
use Rattle.small_sums.specs.Sums.{IsSmallSum, Fits}

-- the inequality is taken once or twice
abbrev pub IsMultiple : ℤ → Type 0
IsMultiple k = (k ≡ pos 1) ⊎ (k ≡ pos 2)

-- the sum of the rows times m is under k * l, of which each number fits
pub record IsSmallBy (rows : List Linear) (l : Linear) (m : Multipliers) (k : ℤ) : Type 0 where
  pub multiple : IsMultiple k
  pub fits : Fits (lin_times k l)
  pub sum : Combination
  pub small : IsSmallSum rows 2 m sum
  pub under : IsUnder sum (lin_times k l)

-- the inequality l ≥ 0 is small
abbrev pub IsSmall : List Linear → Linear → Type 0
IsSmall rows l = (m : Multipliers) × (k : ℤ) × IsSmallBy rows l m k

-- multipliers n of l itself, where m are those of k * l
abbrev pub AreShared : Multipliers → Multipliers → ℤ → Type 0
AreShared n m k = AllZip (λ (q p : ℕ × Fraction). (q.0 ≡ p.0) × IsQuotient q.1 p.1 (whole k)) n m

-- -1 ≥ 0: where it is small, the rows contradict each other
abbrev pub falsehood : Linear
falsehood = lin_constant (negsuc 0)

-- ---- the least constant
-- l + x ≥ 0 is reached: the sum of the rows times m has the coefficients of k * l, which fit, and the constant of
-- k * (l + x). The constant of l may be any whole number.
pub record IsReachedBy (rows : List Linear) (l : Linear) (x : Fraction) (m : Multipliers) (k : ℤ) : Type 0 where
  pub multiple : IsMultiple k
  pub fits : All IsNarrow (lin_times k l).coefficients
  pub sum : Combination
  pub small : IsSmallSum rows 2 m sum
  pub same : HasCoefficients sum (lin_times k l)
  pub constant : IsSame sum.constant (times (whole k) (plus (whole l.constant) x))

abbrev pub IsReached : List Linear → Linear → Fraction → Type 0
IsReached rows l x = (m : Multipliers) × (k : ℤ) × IsReachedBy rows l x m k

-- x is the least constant for which l + x ≥ 0 is small
pub record IsLeastBy (rows : List Linear) (l : Linear) (x : Fraction) (m : Multipliers) (k : ℤ) : Type 0 where
  pub reached : IsReachedBy rows l x m k
  pub least : (y : Fraction) → IsReached rows l y → IsAtMost x y

abbrev pub IsLeast : List Linear → Linear → Fraction → Type 0
IsLeast rows l x = (m : Multipliers) × (k : ℤ) × IsLeastBy rows l x m k
