-- Quotients, cut to a type.
use Rattle.std.proofs.Common.{◌≡◌, ℕ, zero, suc, ◌-◌, ◌/◌, ◌%◌, ◌^◌, ◌<◌, ◌≤◌, refl, ap, sym, arith, ℤ, pos, negsuc, neg_ℤ, int_div, unsigned_abs}
use Rattle.std.specs.Int.{Width, w32, w64, int_wrap, int_wrapping_div, cast_signed, cast_unsigned}
use Rattle.std.proofs.Math.Nat.{mod-eq_of_lt, div-le_self}
use mir.Val.{bits}
use lib.Signed.{mag}

-- a number that isn't too far from 0 is cut as its bits say
cast_wraps : (w : Width) (z : ℤ) → unsigned_abs z < 2 ^ bits w → cast_signed w (cast_unsigned w z) ≡ int_wrap w z
unfolding int_wrap
cast_wraps w (pos n) small = ap (cast_signed w) (sym (mod-eq_of_lt small))
cast_wraps w (negsuc n) small =
    let near : n < 2 ^ bits w = omega arith in
    let same : n % 2 ^ bits w ≡ n = mod-eq_of_lt near in
    ap (cast_signed w) (let e : 2 ^ bits w - suc n ≡ 2 ^ bits w - 1 - n % 2 ^ bits w = omega arith in e)

negated : (n : ℕ) → unsigned_abs (neg_ℤ (pos n)) ≡ n
negated zero = refl
negated (suc n) = refl

-- a quotient isn't farther from 0 than what is divided
quotient_small : (x y : ℤ) → unsigned_abs (int_div x y) ≤ unsigned_abs x
quotient_small (pos a) (pos b) = div-le_self a b
quotient_small (pos a) (negsuc b) = omega (arith, negated (a / suc b), div-le_self a (suc b))
quotient_small (negsuc a) (pos b) = omega (arith, negated (suc a / b), div-le_self (suc a) b)
quotient_small (negsuc a) (negsuc b) = div-le_self (suc a) (suc b)

-- what `wrapping_div` answers is the exact quotient, cut
pub quotient_wraps : (w : Width) (x y : ℤ) → unsigned_abs x < 2 ^ bits w → int_wrapping_div w x y ≡ int_wrap w (int_div x y)
quotient_wraps w x y small = cast_wraps w (int_div x y) (omega (arith, quotient_small x y))

-- how far a number of a type is from 0
pub size_of : (z : ℤ) (limit : ℕ) → mag z < limit → unsigned_abs z ≤ limit
size_of (pos n) limit small = omega arith
size_of (negsuc n) limit small = omega arith

-- the low bits of a long are what is left of it in an int
pub low_wraps : (z : ℤ) → unsigned_abs z ≤ 2 ^ 63 → cast_signed w32 (cast_unsigned w64 z % 2 ^ 32) ≡ int_wrap w32 z
unfolding int_wrap
low_wraps (pos n) small = refl
low_wraps (negsuc n) small = ap (cast_signed w32) (let e : (2 ^ 64 - suc n) % 2 ^ 32 ≡ 2 ^ 32 - 1 - n % 2 ^ 32 = omega arith in e)
