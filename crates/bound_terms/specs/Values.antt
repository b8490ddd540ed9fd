-- The value of a bound at sizes, a natural number, and where each part of it fits the machine's numbers.
use Rattle.std.specs.Prelude.{ℕ, zero, suc, ◌+◌, ◌*◌, ◌/◌, ◌^◌, ◌<◌, max, ◌≡◌, ℤ, pos, negsuc, ◌+ℤ◌, ◌*ℤ◌, List, [], ◌∷◌, slice_index_or, FitsSigned, Result, Ok, Err}
use Rattle.std.specs.Int.{w128}
use Rattle.lin_rows.specs.Linear.{Linear}
use Rattle.lin_rows.specs.Points.{whole_value}
use Rattle.bound_terms.specs.declared.values.TooBig.{TooBig}
use Rattle.bound_terms.specs.Terms.{Floored, Term, Number, Floor, Total, Product, Greatest, Power, Geometric, Terms, none, more}

-- 0 in place of what is below it
abbrev pub not_below_zero : ℤ → ℕ
not_below_zero (pos n) = n
not_below_zero (negsuc n) = 0

-- the expression at the sizes, not below 0, divided and rounded down. A size past the list is 0
abbrev pub floored_value : List ℤ → Floored → ℕ
floored_value sizes n = not_below_zero (whole_value n.expression sizes) / n.divisor

-- 1 + b + .. + b^(n-1)
abbrev pub geo : ℕ → ℕ → ℕ
geo b zero = 0
geo b (suc n) = geo b n + b ^ n

abbrev mutual
  pub value_of : List ℤ → Term → ℕ
  value_of sizes (Number n) = n
  value_of sizes (Floor n) = floored_value sizes n
  value_of sizes (Total ts) = total_of sizes ts
  value_of sizes (Product ts) = product_of sizes ts
  value_of sizes (Greatest ts) = greatest_of sizes ts
  value_of sizes (Power b n) = b ^ floored_value sizes n
  value_of sizes (Geometric b n) = geo b (floored_value sizes n)

  -- the sum of the values
  pub total_of : List ℤ → Terms → ℕ
  total_of sizes none = 0
  total_of sizes (more t ts) = value_of sizes t + total_of sizes ts

  -- their product
  pub product_of : List ℤ → Terms → ℕ
  product_of sizes none = 1
  product_of sizes (more t ts) = value_of sizes t * product_of sizes ts

  -- the greatest of them
  pub greatest_of : List ℤ → Terms → ℕ
  greatest_of sizes none = 0
  greatest_of sizes (more t ts) = max (value_of sizes t) (greatest_of sizes ts)

-- ---- what fits
-- the sums that make an expression, its terms from variable i on in order and then the constant, fit 128 bits
abbrev pub SumsFit : List ℤ → ℤ → ℕ → List ℤ → ℤ → Type 0
SumsFit sizes s i [] k = FitsSigned w128 (s +ℤ k)
SumsFit sizes s i (c ∷ cs) k =
    FitsSigned w128 (s +ℤ (c *ℤ slice_index_or sizes i (pos 0))) × SumsFit sizes (s +ℤ (c *ℤ slice_index_or sizes i (pos 0))) (suc i) cs k

abbrev pub IsSummed : List ℤ → Linear → Type 0
IsSummed sizes l = SumsFit sizes (pos 0) 0 l.coefficients l.constant

abbrev mutual
  -- the value of each part is below 2^128, and the sums of its expressions fit
  pub Fits : List ℤ → Term → Type 0
  Fits sizes (Number n) = n < 2 ^ 128
  Fits sizes (Floor n) = IsSummed sizes n.expression
  Fits sizes (Total ts) = AllFit sizes ts × (total_of sizes ts < 2 ^ 128)
  Fits sizes (Product ts) = AllFit sizes ts × (product_of sizes ts < 2 ^ 128)
  Fits sizes (Greatest ts) = AllFit sizes ts
  Fits sizes (Power b n) = IsSummed sizes n.expression × (b ^ floored_value sizes n < 2 ^ 128)
  Fits sizes (Geometric b n) = IsSummed sizes n.expression × (geo b (floored_value sizes n) < 2 ^ 128)

  pub AllFit : List ℤ → Terms → Type 0
  AllFit sizes none = Unit {0}
  AllFit sizes (more t ts) = Fits sizes t × AllFit sizes ts

-- the answer is the value where it fits, and else that it is too big
abbrev pub Answers : {A : Type 0} → Result A TooBig → Type 0 → A → Type 0
Answers (Ok n) fits value = fits × (n ≡ value)
Answers (Err e) fits value = ¬ fits
