-- Signs of fractions, of their sums and of their products, and when fractions are equal (van der Waerden, Algebra, on
-- ordered fields).
use Rattle.std.specs.Prelude.{◌≡◌, pos, ◌≤ℤ◌, ◌<ℤ◌}
use Rattle.q128.specs.Fraction.{Fraction, whole, IsSame, IsLowest, plus, negative, times}

-- the same rational has the same sign
pub record SignsAgree (x y : Fraction) : Type 0 where
  pub negative : IsSame x y → y.num <ℤ pos 0 → x.num <ℤ pos 0
  pub not_negative : IsSame x y → pos 0 ≤ℤ y.num → pos 0 ≤ℤ x.num
  pub none : IsSame x y → y.num ≡ pos 0 → x.num ≡ pos 0

-- the sign of a sum
pub record SumSigns (x y : Fraction) : Type 0 where
  pub low : x.num ≤ℤ pos 0 → y.num ≤ℤ pos 0 → (plus x y).num ≤ℤ pos 0
  pub left : x.num <ℤ pos 0 → y.num ≤ℤ pos 0 → (plus x y).num <ℤ pos 0
  pub right : x.num ≤ℤ pos 0 → y.num <ℤ pos 0 → (plus x y).num <ℤ pos 0

-- the sign of a product
pub record ProductSigns (x y : Fraction) : Type 0 where
  pub left_none : x.num ≡ pos 0 → (times x y).num ≡ pos 0
  pub right_none : y.num ≡ pos 0 → (times x y).num ≡ pos 0
  pub low : x.num ≤ℤ pos 0 → pos 0 ≤ℤ y.num → (times x y).num ≤ℤ pos 0
  pub negative : pos 0 <ℤ x.num → y.num <ℤ pos 0 → (times x y).num <ℤ pos 0

-- a rational has one fraction in lowest terms
abbrev pub LowestAreOne : Type 0
LowestAreOne = (x y : Fraction) → IsLowest x → IsLowest y → IsSame x y → x ≡ y

-- what is added to both sides may be taken away
abbrev pub SumsCancel : Type 0
SumsCancel = (x y z : Fraction) → IsSame (plus x z) (plus y z) → IsSame x y

-- an equation r = k c + o, solved for c: c = h r + p, where h k = 1 and p k = -o
abbrev pub SolvedFor : Type 0
SolvedFor = (r c o p k h : Fraction) → IsSame (times h k) (whole (pos 1)) → IsSame (times p k) (negative o) → IsSame r (plus (times k c) o) → IsSame c (plus (times h r) p)

-- and back
abbrev pub SolvedBack : Type 0
SolvedBack = (r c o p k h : Fraction) → IsSame (times h k) (whole (pos 1)) → IsSame (times p k) (negative o) → IsSame c (plus (times h r) p) → IsSame r (plus (times k c) o)
