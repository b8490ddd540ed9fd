-- Small caps: an expression u over entry sizes alone that is at least l wherever the rows hold, since u - l ≥ 0 is a small
-- sum of the rows (Farkas' lemma; Schrijver, Theory of Linear and Integer Programming, section 7.3).
use Rattle.std.specs.Prelude.{◌≡◌, ◌≢◌, ℕ, ℤ, pos, negsuc, ◌-ℤ◌, ◌*ℤ◌, ◌≤ℤ◌, List, [], Contains}
use Rattle.q128.specs.Fraction.{whole, IsAtMost}
use Rattle.lin_rows.specs.Linear.{Linear, coefficient_of, nothing}
use Rattle.lin_rows.specs.Proving.{Multipliers}
use Rattle.lin_rows.specs.Combining.{Combination, HasCoefficients}
use Rattle.lin_rows.specs.Transitions.{lin_plus, lin_times}
use Rattle.small_sums.specs.Sums.{IsSmallSum, Fits}
use Rattle.small_cert.specs.Small.{IsMultiple, IsSmall, IsSmallBy, AreShared, falsehood}
use Rattle.small_cert.specs.Order.{key_of, IsBefore}

-- its variables are entry sizes
pub record IsOver (entry : List ℕ) (l : Linear) : Type 0 where
  pub each : (v : ℕ) → coefficient_of l v ≢ pos 0 → Contains entry v

-- u - l
abbrev pub excess_of : Linear → Linear → Linear
excess_of u l = lin_plus u (lin_times (negsuc 0) l)

-- u is what the sum makes for the multiple k: the sum has the coefficients of k * (u - l) and at most its constant, but not
-- with a constant of u that is less by 1, which is so rounded up. Each number of u and of k * (u - l) fits.
pub record IsCapOf (sum : Combination) (l : Linear) (entry : List ℕ) (u : Linear) (k : ℤ) : Type 0 where
  pub over : IsOver entry u
  pub same : HasCoefficients sum (lin_times k (excess_of u l))
  pub under : IsAtMost sum.constant (whole (k *ℤ (u.constant -ℤ l.constant)))
  pub rounded : IsAtMost sum.constant (whole (k *ℤ ((u.constant -ℤ pos 1) -ℤ l.constant))) → ⊥
  pub fits : Fits u
  pub fits_excess : Fits (lin_times k (excess_of u l))

-- the sum of at most three rows times m makes it
pub record IsCapBy (rows : List Linear) (l : Linear) (entry : List ℕ) (u : Linear) (m : Multipliers) (k : ℤ) : Type 0 where
  pub multiple : IsMultiple k
  pub sum : Combination
  pub small : IsSmallSum rows 3 m sum
  pub cap : IsCapOf sum l entry u k

-- u comes first: before w in the order, or with the same coefficients and at most its constant
pub record IsFirst (u w : Linear) : Type 0 where
  pub first : IsBefore w u → ⊥
  pub least : key_of w ≡ key_of u → u.constant ≤ℤ w.constant

-- it is made, and comes before all others that are made
pub record IsFirstCap (rows : List Linear) (l : Linear) (entry : List ℕ) (u : Linear) (m : Multipliers) (k : ℤ) : Type 0 where
  pub made : IsCapBy rows l entry u m k
  pub each : (w : Linear) (n : Multipliers) (j : ℤ) → IsCapBy rows l entry w n j → IsFirst u w

-- The small cap u, and multipliers n of it: l itself over entry sizes alone, 0 where the rows contradict each other, and
-- else the first.
pub data IsSmallCap (rows : List Linear) (l : Linear) (entry : List ℕ) : Linear → Multipliers → Type 0 where
  own : IsOver entry l → IsSmallCap rows l entry l []
  dead : {n m : Multipliers} {k : ℤ} → (IsOver entry l → ⊥) → IsSmallBy rows falsehood m k → AreShared n m k → IsSmallCap rows l entry nothing n
  made : {u : Linear} {n m : Multipliers} {k : ℤ} → (IsOver entry l → ⊥) → (IsSmall rows falsehood → ⊥) → IsFirstCap rows l entry u m k → AreShared n m k → IsSmallCap rows l entry u n

-- there is none
pub record HasNoCap (rows : List Linear) (l : Linear) (entry : List ℕ) : Type 0 where
  pub not_over : IsOver entry l → ⊥
  pub not_dead : IsSmall rows falsehood → ⊥
  pub none : (u : Linear) (m : Multipliers) (k : ℤ) → IsCapBy rows l entry u m k → ⊥
