-- Signs of fractions.
use Rattle.std.specs.Prelude.{◌≡◌, ℕ, zero, suc, ◌*◌, ◌<◌, ℤ, pos, negsuc, ◌*ℤ◌, ◌≤ℤ◌, ◌<ℤ◌}
use Rattle.std.proofs.Common.{arith, refl, sym, ap, ◌∙◌}
use Rattle.std.proofs.lemmas.Int.{ints, by_lt_z}
use Rattle.q128.specs.Fraction.{Fraction, den_of, IsSame}
use Rattle.q128.proofs.Field.{nonneg-same}
use Rattle.fraction_laws.specs.Laws.{SignsAgree, SumSigns, ProductSigns}

-- ---- whole numbers
product_below : (a : ℤ) (d : ℕ) → a <ℤ pos 0 → (a *ℤ pos (suc d)) <ℤ pos 0
product_below (pos m) d h = absurd (omega (arith, ints))
product_below (negsuc m) d h = let e : 0 < suc m * suc d = omega arith in omega (arith, ints)

product_low : (a : ℤ) (d : ℕ) → a ≤ℤ pos 0 → (a *ℤ pos d) ≤ℤ pos 0
product_low (pos zero) d h = let e : 0 * d ≡ 0 = omega arith in omega (arith, ints)
product_low (pos (suc m)) d h = absurd (omega (arith, ints))
product_low (negsuc m) zero h = let e : suc m * 0 ≡ 0 = omega arith in omega (arith, ints)
product_low (negsuc m) (suc d) h = omega (arith, ints, product_below (negsuc m) d (omega (arith, ints)))

product_negative : (a b : ℤ) → pos 0 <ℤ a → b <ℤ pos 0 → (a *ℤ b) <ℤ pos 0
product_negative (pos zero) b h k = absurd (omega (arith, ints))
product_negative (pos (suc m)) (pos n) h k = absurd (omega (arith, ints))
product_negative (pos (suc m)) (negsuc n) h k = let e : 0 < suc m * suc n = omega arith in omega (arith, ints)
product_negative (negsuc m) b h k = absurd (omega (arith, ints))

product_not_above : (a b : ℤ) → a ≤ℤ pos 0 → pos 0 ≤ℤ b → (a *ℤ b) ≤ℤ pos 0
product_not_above a (pos n) h k = product_low a n h
product_not_above a (negsuc n) h k = absurd (omega (arith, ints))

none_left : (a b : ℤ) → a ≡ pos 0 → (a *ℤ b) ≡ pos 0
none_left a b e = ap (λ z. z *ℤ b) e ∙ is b
  where
    is : (b : ℤ) → (pos 0 *ℤ b) ≡ pos 0
    is (pos n) = let e : 0 * n ≡ 0 = omega arith in ap pos e
    is (negsuc n) = let e : 0 * suc n ≡ 0 = omega arith in omega (arith, ints)

none_right : (a b : ℤ) → b ≡ pos 0 → (a *ℤ b) ≡ pos 0
none_right a b e = ap (λ z. a *ℤ z) e ∙ is a
  where
    is : (a : ℤ) → (a *ℤ pos 0) ≡ pos 0
    is (pos n) = let e : n * 0 ≡ 0 = omega arith in ap pos e
    is (negsuc n) = let e : suc n * 0 ≡ 0 = omega arith in omega (arith, ints)

nothing_before : (a : ℤ) (d : ℕ) → (a *ℤ pos (suc d)) ≡ pos 0 → a ≡ pos 0
nothing_before (pos zero) d e = refl
nothing_before (pos (suc m)) d e = let some : 0 < suc m * suc d = omega arith in absurd (omega (arith, ints))
nothing_before (negsuc m) d e = let some : 0 < suc m * suc d = omega arith in absurd (omega (arith, ints))

-- ---- fractions
negative-same : (x y : Fraction) → IsSame x y → y.num <ℤ pos 0 → x.num <ℤ pos 0
negative-same x y e h = by_lt_z x.num (pos 0) (λ lt. lt) (λ le. absurd (omega (arith, ints, nonneg-same x y e le)))

none-same : (x y : Fraction) → IsSame x y → y.num ≡ pos 0 → x.num ≡ pos 0
none-same x y e h = nothing_before x.num y.den_less_one (e ∙ none_left y.num (den_of x) h)

pub signs_agree : (x y : Fraction) → SignsAgree x y
signs_agree x y = record {
  negative = negative-same x y;
  not_negative = λ e h. nonneg-same y x (sym e) h;
  none = none-same x y;
}

pub sum_signs : (x y : Fraction) → SumSigns x y
sum_signs x y = record {
  low = λ h k. omega (arith, ints, product_low x.num (suc y.den_less_one) h, product_low y.num (suc x.den_less_one) k);
  left = λ h k. omega (arith, ints, product_below x.num y.den_less_one h, product_low y.num (suc x.den_less_one) k);
  right = λ h k. omega (arith, ints, product_low x.num (suc y.den_less_one) h, product_below y.num x.den_less_one k);
}

pub product_signs : (x y : Fraction) → ProductSigns x y
product_signs x y = record {
  left_none = none_left x.num y.num;
  right_none = none_right x.num y.num;
  low = product_not_above x.num y.num;
  negative = product_negative x.num y.num;
}
