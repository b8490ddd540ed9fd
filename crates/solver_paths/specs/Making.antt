-- The numbers that a pivot makes, each by an operation of fractions in 128 bits.
use Rattle.std.specs.Prelude.{◌≡◌, ◌≢◌, ℕ, pos, List, Option, Some, None, Contains, ⊤}
use Rattle.q128.specs.Fraction.{Fraction, whole}
use Rattle.q128.specs.Rule.{add_rule, sub_rule, mul_rule, div_rule}
use Rattle.q128.specs.declared.q.QOp.{QOp}
use Rattle.q128.specs.declared.q.QOp.TheVariants.{Add, Sub, Mul, Div}
use Rattle.q128.specs.declared.q.TooWide.{TooWide}
use Rattle.lin_rows.specs.Linear.{Linear}
use Rattle.solver_paths.specs.Choices.{IsOut, Dictionary}

-- what an operation makes of two fractions, None where one of its numbers leaves the type
abbrev pub rule_of : QOp → Fraction → Fraction → Option Fraction
rule_of Add = add_rule
rule_of Sub = sub_rule
rule_of Mul = mul_rule
rule_of Div = div_rule

-- an operation that is too wide
abbrev pub IsTooWide : TooWide → Type 0
IsTooWide w = rule_of w.op w.a w.b ≡ None

-- a place of an expression: its constant, or the coefficient of a chosen number
pub data Place : Type 0 where
  Constant : Place
  Of : ℕ → Place

-- the number there in the expression of n
abbrev pub number_at : Dictionary → ℕ → Place → Fraction
number_at d n Constant = d.constant n
number_at d n (Of s) = d.coefficient n s

-- the places of an expression over the choice other than that of c
abbrev pub IsOther : List ℕ → ℕ → Place → Type 0
IsOther choice c Constant = ⊤
IsOther choice c (Of s) = Contains choice s × (s ≢ c)

-- a number outside the choice other than r
pub record IsBeside (rows : List Linear) (choice : List ℕ) (r n : ℕ) : Type 0 where
  pub out : IsOut rows choice n
  pub other : n ≢ r

-- The pivot (r, c) makes w. With k the coefficient of c in the expression of r: 1/k; for each other number q of that
-- expression q/k and 0 - q/k; for each other number outside, with m its coefficient of c, m/k, and for each q the product
-- (m/k)*q and the number at the same place less this product.
pub data PivotMakes (rows : List Linear) (choice : List ℕ) (d : Dictionary) (r c : ℕ) (w : TooWide) : Type 0 where
  inverse : w ≡ record { a = whole (pos 1); b = d.coefficient r c; op = Div } → PivotMakes rows choice d r c w
  quotient : (e : Place) → IsOther choice c e → w ≡ record { a = number_at d r e; b = d.coefficient r c; op = Div } → PivotMakes rows choice d r c w
  opposite : (e : Place) (p : Fraction) → IsOther choice c e → div_rule (number_at d r e) (d.coefficient r c) ≡ Some p → w ≡ record { a = whole (pos 0); b = p; op = Sub } → PivotMakes rows choice d r c w
  share : (n : ℕ) → IsBeside rows choice r n → w ≡ record { a = d.coefficient n c; b = d.coefficient r c; op = Div } → PivotMakes rows choice d r c w
  product : (n : ℕ) (s : Fraction) (e : Place) → IsBeside rows choice r n → IsOther choice c e → div_rule (d.coefficient n c) (d.coefficient r c) ≡ Some s → w ≡ record { a = s; b = number_at d r e; op = Mul } → PivotMakes rows choice d r c w
  rest : (n : ℕ) (s p : Fraction) (e : Place) → IsBeside rows choice r n → IsOther choice c e → div_rule (d.coefficient n c) (d.coefficient r c) ≡ Some s → mul_rule s (number_at d r e) ≡ Some p → w ≡ record { a = number_at d n e; b = p; op = Sub } → PivotMakes rows choice d r c w

-- no number that it makes is too wide
pub record IsNarrow (rows : List Linear) (choice : List ℕ) (d : Dictionary) (r c : ℕ) : Type 0 where
  pub each : (w : TooWide) → PivotMakes rows choice d r c w → IsTooWide w → ⊥
