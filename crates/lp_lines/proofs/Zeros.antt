-- Operations with a 0 make numbers of 128 bits.
use Rattle.std.specs.Prelude.{◌≡◌, ℕ, suc, ◌-◌, ◌*◌, ◌/◌, ℤ, pos, negsuc, neg_ℤ, ◌+ℤ◌, ◌*ℤ◌, int_div, unsigned_abs, Some}
use Rattle.std.specs.Int.{◌∣◌}
use Rattle.std.proofs.Common.{arith, refl, ap, ◌∙◌, lit<}
use Rattle.std.proofs.Math.Nat.{dvd_refl, one-dvd, div_self, zero-div}
use Rattle.std.proofs.lemmas.Nat.Gcd.{dvd-zero}
use Rattle.std.proofs.lemmas.Int.{ints}
use Rattle.q128.specs.Fraction.{Fraction, whole}
use Rattle.q128.specs.Rule.{◌>>=◌, gcd, narrow, narrow_natural, add_parts, add_rule, negate_rule, sub_rule, mul_parts, mul_rule, inverse_rule, div_rule}
use Rattle.q128.proofs.Divisors.{gcd-is}
use Rattle.q128.proofs.Checked.{is_some, narrow_natural-is}
use Rattle.lp_lines.specs.Numbers.{IsNumber}

over_one : (z : ℤ) → int_div z (pos 1) ≡ z
over_one (pos n) = ap pos (is n)
  where
    is : (n : ℕ) → n / 1 ≡ n
    is n = omega arith
over_one (negsuc n) = ap (λ (k : ℕ). neg_ℤ (pos k)) (is (suc n))
  where
    is : (n : ℕ) → n / 1 ≡ n
    is n = omega arith

gcd-one : (n : ℕ) → gcd n 1 ≡ 1
gcd-one n = gcd-is n 1 1 (one-dvd n, dvd_refl 1, λ d h k. k)

none_of : (n : ℕ) → n ∣ 0
none_of n = dvd-zero n

gcd-none : (n : ℕ) → gcd 0 n ≡ n
gcd-none n = gcd-is 0 n n (none_of n, dvd_refl n, λ d h k. k)

natural_one : narrow_natural 1 ≡ Some 1
natural_one = narrow_natural-is 1 (lit< tt)

none_fits : narrow (pos 0) ≡ Some (pos 0)
none_fits = is_some (pos 0) (lit< tt)

none_over : (n : ℕ) → int_div (pos 0) (pos n) ≡ pos 0
none_over n = ap pos (zero-div n)

by_none : (z : ℤ) → z *ℤ pos 0 ≡ pos 0
by_none z = omega (arith, ints)

of_none : (z : ℤ) → pos 0 *ℤ z ≡ pos 0
of_none z = omega (arith, ints)

own : (n : ℕ) → suc n / suc n ≡ 1
own n = div_self (omega arith)

pub times_none : (x : Fraction) → mul_rule x (whole (pos 0)) ≡ Some (whole (pos 0))
unfolding mul_rule mul_parts
times_none x =
    rw (gcd-one (unsigned_abs x.num), gcd-none (suc x.den_less_one), none_over (suc x.den_less_one), by_none (int_div x.num (pos 1)), none_fits, own x.den_less_one, natural_one) refl

pub none_times : (y : Fraction) → mul_rule (whole (pos 0)) y ≡ Some (whole (pos 0))
unfolding mul_rule mul_parts
none_times y =
    rw (gcd-one (unsigned_abs y.num), gcd-none (suc y.den_less_one), none_over (suc y.den_less_one), of_none (int_div y.num (pos 1)), none_fits, own y.den_less_one, natural_one) refl

-- 0 / k, where k has an inverse
pub none_over_it : (k h : Fraction) → inverse_rule k ≡ Some h → div_rule (whole (pos 0)) k ≡ Some (whole (pos 0))
unfolding div_rule
none_over_it k h e = ap (λ o. o >>= mul_rule (whole (pos 0))) e ∙ none_times h

times_one : (a : ℤ) → a *ℤ pos 1 ≡ a
times_one a = omega (arith, ints)

no_more : (a : ℤ) → a +ℤ pos 0 ≡ a
no_more a = omega (arith, ints)

one_over : (n : ℕ) → n / 1 ≡ n
one_over n = omega arith

once : (n : ℕ) → n * 1 ≡ n
once n = omega arith

less_one : (n : ℕ) → suc n - 1 ≡ n
less_one n = omega arith

pub less_none : (x : Fraction) → IsNumber x → sub_rule x (whole (pos 0)) ≡ Some x
unfolding sub_rule negate_rule add_rule add_parts
less_none x n =
    rw (none_fits, gcd-one (suc x.den_less_one), times_one x.num, is_some x.num n.size, of_none (pos (suc x.den_less_one / 1)), none_fits, no_more x.num, is_some x.num n.size, one_over (suc x.den_less_one), once (suc x.den_less_one), narrow_natural-is (suc x.den_less_one) n.parts.bounded, gcd-one (unsigned_abs x.num), over_one x.num, one_over (suc x.den_less_one), less_one x.den_less_one) refl
