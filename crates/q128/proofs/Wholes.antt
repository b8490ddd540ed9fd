-- What the rule makes of whole numbers.
use Rattle.std.specs.Prelude.{◌≡◌, ◌≢◌, ℕ, zero, suc, ◌/◌, ◌<◌, ◌≤◌, ◌^◌, ℤ, pos, negsuc, neg_ℤ, ◌+ℤ◌, ◌-ℤ◌, ◌*ℤ◌, int_div, unsigned_abs, Option, Some, None}
use Rattle.std.specs.Int.Signed.{mag}
use Rattle.std.proofs.Common.{arith, refl, ap, ⊎_elim, lit<}
use Rattle.std.proofs.Math.Nat.{dvd_refl, one-dvd}
use Rattle.std.proofs.lemmas.Int.{ints}
use Rattle.std.proofs.lemmas.Bool.{cases_lt}
use Rattle.q128.specs.Fraction.{whole}
use Rattle.q128.specs.Rule.{◌>>=◌, gcd, narrow, narrow_natural, made, add_parts, add_rule, negate_rule, sub_rule, mul_parts, mul_rule}
use Rattle.q128.specs.Laws.{IsNarrow, narrow_whole, RuleOnWholes}
use Rattle.q128.proofs.Divisors.{gcd-is}
use Rattle.q128.proofs.Checked.{is_some, is_none, narrow_natural-is}

over_one : (z : ℤ) → int_div z (pos 1) ≡ z
over_one (pos n) = ap pos (is n)
  where
    is : (n : ℕ) → n / 1 ≡ n
    is n = omega arith
over_one (negsuc n) = ap (λ (k : ℕ). neg_ℤ (pos k)) (is (suc n))
  where
    is : (n : ℕ) → n / 1 ≡ n
    is n = omega arith

gcd-one : (n : ℕ) → gcd n 1 ≡ 1
gcd-one n = gcd-is n 1 1 (one-dvd n, dvd_refl 1, λ d h k. k)

natural_one : narrow_natural 1 ≡ Some 1
natural_one = narrow_natural-is 1 (lit< tt)

-- the numerator and the denominator of a sum, divided by what they share
divided : ℤ → ℕ → Option (ℤ × ℕ)
divided top bottom = Some (int_div top (pos (gcd (unsigned_abs top) 1)), bottom / gcd (unsigned_abs top) 1)

divided_is : (z : ℤ) → divided z 1 ≡ Some (z, 1)
unfolding divided
divided_is z = rw (gcd-one (unsigned_abs z), over_one z) refl

last_steps : (z : ℤ) (f : ℤ → ℕ → Option (ℤ × ℕ)) → f z 1 ≡ Some (z, 1) → made (narrow z >>= λ top. narrow_natural 1 >>= f top) ≡ narrow_whole z
last_steps z f e = ⊎_elim (λ h. rw (is_some z h, natural_one, e) refl) (λ h. rw (is_none z h) refl) (cases_lt (mag z) (2 ^ 127))

times_one : (a : ℤ) → a *ℤ pos 1 ≡ a
times_one a = omega (arith, ints)

sum_is : (a b : ℤ) → IsNarrow a → IsNarrow b → add_rule (whole a) (whole b) ≡ narrow_whole (a +ℤ b)
unfolding add_rule add_parts divided
sum_is a b h k =
    rw (gcd-one 1, times_one a, times_one b, is_some a h, is_some b k) (last_steps (a +ℤ b) divided (divided_is (a +ℤ b)))

product_is : (a b : ℤ) → mul_rule (whole a) (whole b) ≡ narrow_whole (a *ℤ b)
unfolding mul_rule mul_parts
product_is a b =
    rw (gcd-one (unsigned_abs a), gcd-one (unsigned_abs b), over_one a, over_one b) (last_steps (a *ℤ b) (λ top bottom. Some (top, bottom)) refl)

-- ---- differences
opposite_is : (b : ℤ) → IsNarrow (neg_ℤ b) → negate_rule (whole b) ≡ Some (whole (neg_ℤ b))
unfolding negate_rule
opposite_is b h = rw (is_some (neg_ℤ b) h) refl

opposite_fits : (b : ℤ) (k : ℕ) → mag b < k → b ≢ neg_ℤ (pos k) → mag (neg_ℤ b) < k
opposite_fits (pos zero) k h some = omega arith
opposite_fits (pos (suc n)) k h some = omega arith
opposite_fits (negsuc n) zero h some = absurd (omega arith)
opposite_fits (negsuc n) (suc k) h some = ⊎_elim (λ lt. omega arith) (λ le. absurd (some (ap negsuc (same le)))) (cases_lt n k)
  where
    same : k ≤ n → n ≡ k
    same le = omega arith

difference_is : (a b : ℤ) → IsNarrow a → IsNarrow (neg_ℤ b) → sub_rule (whole a) (whole b) ≡ narrow_whole (a -ℤ b)
unfolding sub_rule
difference_is a b h k = rw (opposite_is b k) (sum_is a (neg_ℤ b) h k)

least_none : (k : ℕ) (b : ℤ) → b ≡ neg_ℤ (pos k) → k ≤ mag (neg_ℤ b)
least_none zero b e = omega arith
least_none (suc k) b e = rw e (omega arith)

least_is : (a b : ℤ) → 2 ^ 127 ≤ mag (neg_ℤ b) → sub_rule (whole a) (whole b) ≡ None
unfolding sub_rule negate_rule
least_is a b h = rw (is_none (neg_ℤ b) h) refl

pub rule_on_wholes : (a b : ℤ) → IsNarrow a → IsNarrow b → RuleOnWholes a b
rule_on_wholes a b h k = record {
  sum = sum_is a b h k;
  product = product_is a b;
  difference = λ some. difference_is a b h (opposite_fits b (2 ^ 127) k some);
  least = λ e. least_is a b (least_none (2 ^ 127) b e);
}
