-- The rule by which sums, products and quotients of fractions are made in 128 bits: which whole numbers it makes, and
-- what comes out, or None where one of them leaves the type (Knuth, The Art of Computer Programming 2, section 4.5.1).
use Rattle.std.specs.Prelude.{ℕ, zero, suc, ◌-◌, ◌*◌, ◌/◌, ◌%◌, ◌^◌, max, nat_lt, ◌==◌, ◌&&◌, if◌then◌else◌, ℤ, pos, negsuc, neg_ℤ, ◌+ℤ◌, ◌*ℤ◌, int_div, unsigned_abs, Option, Some, None}
use Rattle.std.specs.Int.Signed.{mag}
use Rattle.q128.specs.Fraction.{Fraction}

infixl 10 ◌>>=◌
abbrev pub ◌>>=◌ : {A B : Type 0} → Option A → (A → Option B) → Option B
(Some x) >>= f = f x
None >>= f = None

-- the greatest number up to n that divides a and b, or 0
unfoldable pub greatest_up_to : ℕ → ℕ → ℕ → ℕ
greatest_up_to zero a b = 0
greatest_up_to (suc n) a b = if (a % suc n == 0) && (b % suc n == 0) then suc n else greatest_up_to n a b

-- the greatest common divisor, 0 of 0 and 0
unfoldable pub gcd : ℕ → ℕ → ℕ
gcd a b = greatest_up_to (max a b) a b

-- z, where i128 holds it
unfoldable pub narrow : ℤ → Option ℤ
narrow z = if nat_lt (mag z) (2 ^ 127) then Some z else None

-- n, where i128 holds it
unfoldable pub narrow_natural : ℕ → Option ℕ
narrow_natural n = if nat_lt n (2 ^ 127) then Some n else None

-- top over bottom, which is positive
abbrev pub ratio : ℤ × ℕ → Fraction
ratio p = record { num = p.0; den_less_one = p.1 - 1 }

-- a numerator and a denominator as a fraction
abbrev pub made : Option (ℤ × ℕ) → Option Fraction
made (Some p) = Some (ratio p)
made None = None

-- the sign of the denominator goes to the numerator
unfoldable pub signed : ℤ → ℤ → Option (ℤ × ℕ)
signed top (pos bottom) = Some (top, bottom)
signed top (negsuc n) = do
  numerator ← narrow (neg_ℤ top)
  denominator ← narrow_natural (suc n)
  Some (numerator, denominator)

-- a / b: both are divided by their greatest common divisor, then the sign is put right
abbrev pub new_parts : ℤ → ℤ → ℕ → Option (ℤ × ℕ)
new_parts a b g = signed (int_div a (pos g)) (int_div b (pos g))

unfoldable pub new_rule : ℤ → ℤ → Option Fraction
new_rule a b = made (new_parts a b (gcd (unsigned_abs a) (unsigned_abs b)))

-- a/b + c/d: with g the greatest common divisor of b and d, the numerator is a * (d/g) + c * (b/g), the denominator is
-- (b/g) * d, and both are divided by the numerator's common divisor with g
unfoldable pub add_parts : ℤ → ℕ → ℤ → ℕ → ℕ → Option (ℤ × ℕ)
add_parts a b c d g = do
  left ← narrow (a *ℤ pos (d / g))
  right ← narrow (c *ℤ pos (b / g))
  top ← narrow (left +ℤ right)
  bottom ← narrow_natural (b / g * d)
  Some (int_div top (pos (gcd (unsigned_abs top) g)), bottom / gcd (unsigned_abs top) g)

unfoldable pub add_rule : Fraction → Fraction → Option Fraction
add_rule x y =
    made (add_parts x.num (suc x.den_less_one) y.num (suc y.den_less_one) (gcd (suc x.den_less_one) (suc y.den_less_one)))

-- the sign of the numerator is changed
unfoldable pub negate_rule : Fraction → Option Fraction
negate_rule x = do
  numerator ← narrow (neg_ℤ x.num)
  Some (record { num = numerator; den_less_one = x.den_less_one })

-- x - y adds the negative
unfoldable pub sub_rule : Fraction → Fraction → Option Fraction
sub_rule x y = do
  opposite ← negate_rule y
  add_rule x opposite

-- a/b * c/d: with g the greatest common divisor of a and d and h that of c and b, the products are made of the quotients
unfoldable pub mul_parts : ℤ → ℕ → ℤ → ℕ → ℕ → ℕ → Option (ℤ × ℕ)
mul_parts a b c d g h = do
  top ← narrow (int_div a (pos g) *ℤ int_div c (pos h))
  bottom ← narrow_natural (b / h * (d / g))
  Some (top, bottom)

unfoldable pub mul_rule : Fraction → Fraction → Option Fraction
mul_rule x y =
    made (mul_parts x.num (suc x.den_less_one) y.num (suc y.den_less_one) (gcd (unsigned_abs x.num) (suc y.den_less_one)) (gcd (unsigned_abs y.num) (suc x.den_less_one)))

-- 1/(a/b): it is b/a where a is above 0, and (-b)/(-a) where a is below 0
unfoldable pub inverse_parts : ℤ → ℕ → Option (ℤ × ℕ)
inverse_parts (pos zero) b = None
inverse_parts (pos (suc n)) b = Some (pos b, suc n)
inverse_parts (negsuc n) b = do
  denominator ← narrow_natural (suc n)
  Some (neg_ℤ (pos b), denominator)

unfoldable pub inverse_rule : Fraction → Option Fraction
inverse_rule x = made (inverse_parts x.num (suc x.den_less_one))

-- x / y multiplies by the inverse, which is made first
unfoldable pub div_rule : Fraction → Fraction → Option Fraction
div_rule x y = do
  inverse ← inverse_rule y
  mul_rule x inverse
