-- Points and rays of rational numbers, and where a row holds (Schrijver, section 7.2 and 8.1).
use Rattle.std.specs.Prelude.{ℕ, zero, suc, ℤ, pos, ◌+ℤ◌, ◌*ℤ◌, ◌≤ℤ◌, List, [], ◌∷◌, All}
use Rattle.q128.specs.Fraction.{Fraction, whole, plus, times}
use Rattle.lin_rows.specs.Linear.{Linear, coefficient_of}

-- the sum of a factor for each coordinate times it: f 0 * v 0 + f 1 * v 1 + ..
abbrev pub dot : (ℕ → Fraction) → List Fraction → Fraction
dot f [] = whole (pos 0)
dot f (v ∷ vs) = plus (times (f zero) v) (dot (λ i. f (suc i)) vs)

-- l at the coordinates v with t in place of 1: l(v) + constant * t. A variable past the coordinates is 0
abbrev pub value_at : Linear → Fraction → List Fraction → Fraction
value_at l t v = plus (dot (λ i. whole (coefficient_of l i)) v) (times (whole l.constant) t)

-- the row l ≥ 0 holds at (t, v): a point where t is positive, a ray where t is 0
pub record HoldsAt (l : Linear) (t : Fraction) (v : List Fraction) : Type 0 where
  pub not_negative : pos 0 ≤ℤ (value_at l t v).num

-- each row holds there
pub record RowsHoldAt (rows : List Linear) (t : Fraction) (v : List Fraction) : Type 0 where
  pub each : All (λ (l : Linear). HoldsAt l t v) rows

-- ---- whole numbers
-- the sum of the coefficients from variable i on times whole numbers
abbrev pub whole_sum : (ℕ → ℤ) → List ℤ → ℤ
whole_sum f [] = pos 0
whole_sum f (z ∷ zs) = f zero *ℤ z +ℤ whole_sum (λ i. f (suc i)) zs

-- l at whole numbers
abbrev pub whole_value : Linear → List ℤ → ℤ
whole_value l zs = whole_sum (coefficient_of l) zs +ℤ l.constant

-- the row holds at whole numbers
pub record HoldsAtWhole (l : Linear) (zs : List ℤ) : Type 0 where
  pub not_negative : pos 0 ≤ℤ whole_value l zs

pub record RowsHoldAtWhole (rows : List Linear) (zs : List ℤ) : Type 0 where
  pub each : All (λ (l : Linear). HoldsAtWhole l zs) rows
