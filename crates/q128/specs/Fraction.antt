-- Fractions, and what it means that they are equal, ordered, added, taken away, multiplied and divided (the field of
-- fractions of the whole numbers; van der Waerden, Algebra I, section 13).
use Rattle.std.specs.Prelude.{◌≡◌, ℕ, zero, suc, ◌+◌, ◌*◌, ℤ, pos, negsuc, neg_ℤ, ◌+ℤ◌, ◌-ℤ◌, ◌*ℤ◌, ◌≤ℤ◌, unsigned_abs}
use Rattle.std.specs.Ordering.{int_cmp}
use Rattle.std.specs.declared.cmp.Ordering.{Ordering}
use Rattle.std.specs.Int.{◌∣◌}

-- A whole number over a positive one. The denominator is kept less one, so that each record means a rational.
pub record Fraction : Type 0 where
  pub num : ℤ
  pub den_less_one : ℕ

-- the denominator
abbrev pub den_of : Fraction → ℤ
den_of x = pos (suc x.den_less_one)

-- n as a fraction
abbrev pub whole : ℤ → Fraction
whole n = record { num = n; den_less_one = 0 }

-- both are one rational number
abbrev pub IsSame : Fraction → Fraction → Type 0
IsSame x y = x.num *ℤ den_of y ≡ y.num *ℤ den_of x

-- x ≤ y
abbrev pub IsAtMost : Fraction → Fraction → Type 0
IsAtMost x y = (x.num *ℤ den_of y) ≤ℤ (y.num *ℤ den_of x)

-- how x and y are ordered
abbrev pub order_of : Fraction → Fraction → Ordering
order_of x y = int_cmp (x.num *ℤ den_of y) (y.num *ℤ den_of x)

-- the product of two denominators, less one
abbrev pub common_less_one : Fraction → Fraction → ℕ
common_less_one x y = x.den_less_one * suc y.den_less_one + y.den_less_one

-- x + y
abbrev pub plus : Fraction → Fraction → Fraction
plus x y = record { num = x.num *ℤ den_of y +ℤ y.num *ℤ den_of x; den_less_one = common_less_one x y }

-- -x
abbrev pub negative : Fraction → Fraction
negative x = record { num = neg_ℤ x.num; den_less_one = x.den_less_one }

-- x - y
abbrev pub minus : Fraction → Fraction → Fraction
minus x y = record { num = x.num *ℤ den_of y -ℤ y.num *ℤ den_of x; den_less_one = common_less_one x y }

-- x * y
abbrev pub times : Fraction → Fraction → Fraction
times x y = record { num = x.num *ℤ y.num; den_less_one = common_less_one x y }

-- (d + 1) / n with the sign of n, and 0 where n is 0
abbrev pub turned : ℤ → ℕ → Fraction
turned (pos zero) d = whole (pos 0)
turned (pos (suc n)) d = record { num = pos (suc d); den_less_one = n }
turned (negsuc n) d = record { num = negsuc d; den_less_one = n }

-- 1 / x, and 0 where x is 0
abbrev pub inverse : Fraction → Fraction
inverse x = turned x.num x.den_less_one

-- z is x / y: the rational whose product with y is x
abbrev pub IsQuotient : Fraction → Fraction → Fraction → Type 0
IsQuotient z x y = IsSame (times z y) x

-- in lowest terms: 1 alone divides numerator and denominator
pub record IsLowest (x : Fraction) : Type 0 where
  pub lowest : (d : ℕ) → d ∣ unsigned_abs x.num → d ∣ suc x.den_less_one → d ≡ 1
