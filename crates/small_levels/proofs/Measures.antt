-- What is made of levels.
use Rattle.std.specs.Prelude.{◌≡◌, ℕ, zero, suc, ◌<◌, ◌≤◌, ℤ, pos, ◌*ℤ◌, ◌≤ℤ◌, ◌<ℤ◌, Some}
use Rattle.std.proofs.Common.{arith, refl, sym, ◌∙◌, subst}
use Rattle.std.proofs.lemmas.Int.{ints}
use Rattle.q128.specs.Fraction.{Fraction, whole, den_of, IsSame, IsQuotient, times}
use Rattle.q128.specs.Laws.{IsNarrow}
use Rattle.q128.specs.Rule.{new_rule, signed}
use Rattle.q128.proofs.Ring.{*ℤ_assoc}
use Rattle.small_cert.specs.Least.{halves}
use Rattle.small_levels.specs.declared.levels.Levels.{Levels}
use Rattle.small_levels.specs.declared.measure.Measure.{Measure}
use Rattle.small_levels.specs.declared.measure.Factor.{Factor}
use Rattle.small_levels.specs.declared.measure.Factor.TheVariants.{One, Two}
use Rattle.small_levels.specs.Leveled.{MakesWhole, IsCommonFactor, IsMeasure}
use Rattle.small_levels.specs.Numbers.{value_of}
use Rattle.small_levels.specs.Measured.{times_in, IsTimes, IsFactorOf, MakesInteger, IsMade, HasNoMeasure}

-- a fraction with a denominator above 0 is made
pub new_some : (a : ℤ) (b : ℕ) → (x : Fraction) × (new_rule a (pos b) ≡ Some x)
unfolding new_rule signed
new_some a b = (_, refl)

-- ---- the whole numbers
times_same : (factor : Factor) (z n : ℤ) → IsTimes factor z n → IsSame (times (whole (pos (times_in factor))) (halves z)) (whole n)
times_same One z n e = omega (arith, ints, e)
times_same Two z n e = omega (arith, ints, e)

same_times : (factor : Factor) (z n : ℤ) → IsSame (times (whole (pos (times_in factor))) (halves z)) (whole n) → IsTimes factor z n
same_times One z n e = omega (arith, ints, e)
same_times Two z n e = omega (arith, ints, e)

factor_positive : (factor : Factor) → 0 < times_in factor
factor_positive One = omega arith
factor_positive Two = omega arith

even_of : (z n : ℤ) → IsSame (times (whole (pos 1)) (halves z)) (whole n) → z ≡ pos 2 *ℤ n
even_of z n e = omega (arith, ints, e)

-- no lesser factor makes both whole
factor_least : (l : Levels) (factor : Factor) → IsFactorOf l factor → (r : ℕ) → MakesWhole r (halves (value_of l.gate)) (halves (value_of l.fall)) → times_in factor ≤ r
factor_least l One is r h = omega (arith, h.positive)
factor_least l Two is zero h = absurd (omega (arith, h.positive))
factor_least l Two is (suc zero) h = absurd (is ((h.whole_c.0, even_of (value_of l.gate) h.whole_c.0 h.whole_c.1), (h.whole_d.0, even_of (value_of l.fall) h.whole_d.0 h.whole_d.1)))
factor_least l Two is (suc (suc r)) h = omega arith

factor_common : (l : Levels) (factor : Factor) (c d : ℤ) → IsFactorOf l factor → IsTimes factor (value_of l.gate) c → IsTimes factor (value_of l.fall) d → IsCommonFactor (times_in factor) (halves (value_of l.gate)) (halves (value_of l.fall))
factor_common l factor c d is is_c is_d = record {
  makes = record { positive = factor_positive factor; whole_c = (c, times_same factor (value_of l.gate) c is_c); whole_d = (d, times_same factor (value_of l.fall) d is_d) };
  least = factor_least l factor is;
}

pub measure_is : (l : Levels) (factor : Factor) (c d : ℤ) → IsFactorOf l factor → pos 0 <ℤ value_of l.fall → IsTimes factor (value_of l.gate) c → IsTimes factor (value_of l.fall) d → IsNarrow c → IsNarrow d
    → IsMeasure (halves (value_of l.gate)) (halves (value_of l.fall)) (times_in factor) c d
measure_is l factor c d is falls is_c is_d fits_c fits_d = record {
  falls = falls;
  factor = factor_common l factor c d is is_c is_d;
  is_c = times_same factor (value_of l.gate) c is_c;
  is_d = times_same factor (value_of l.fall) d is_d;
  fits_c = fits_c;
  fits_d = fits_d;
}

-- ---- the factor is the only one
whole_makes : (l : Levels) (factor : Factor) → IsFactorOf l factor → MakesWhole (times_in factor) (halves (value_of l.gate)) (halves (value_of l.fall))
whole_makes l One is = record { positive = omega arith; whole_c = (is.0.0, times_same One (value_of l.gate) is.0.0 is.0.1); whole_d = (is.1.0, times_same One (value_of l.fall) is.1.0 is.1.1) }
whole_makes l Two is = record { positive = omega arith; whole_c = (value_of l.gate, times_same Two (value_of l.gate) (value_of l.gate) refl); whole_d = (value_of l.fall, times_same Two (value_of l.fall) (value_of l.fall) refl) }

factor_only : (l : Levels) (factor : Factor) (s : ℕ) → IsFactorOf l factor → IsCommonFactor s (halves (value_of l.gate)) (halves (value_of l.fall)) → s ≡ times_in factor
factor_only l factor s is h = omega (arith, h.least (times_in factor) (whole_makes l factor is), factor_least l factor is s h.makes)

pub integers : (l : Levels) (factor : Factor) → IsFactorOf l factor → MakesInteger factor (value_of l.gate) × MakesInteger factor (value_of l.fall)
integers l One is = is
integers l Two is = (tt, tt)

pub no_measure_low : (l : Levels) → (value_of l.fall ≤ℤ pos 0) → HasNoMeasure l
no_measure_low l low s c d h = contra (value_of l.fall) low h.falls
  where
    contra : (z : ℤ) → z ≤ℤ pos 0 → pos 0 <ℤ z → ⊥
    contra z h k = omega (arith, ints, h, k)

pub no_measure_c : (l : Levels) (factor : Factor) → IsFactorOf l factor → ((n : ℤ) → IsTimes factor (value_of l.gate) n → IsNarrow n → ⊥) → HasNoMeasure l
no_measure_c l factor is none s c d h = none c (same_times factor (value_of l.gate) c (subst (λ (r : ℕ). IsSame (times (whole (pos r)) (halves (value_of l.gate))) (whole c)) (factor_only l factor s is h.factor) h.is_c)) h.fits_c

pub no_measure_d : (l : Levels) (factor : Factor) → IsFactorOf l factor → ((n : ℤ) → IsTimes factor (value_of l.fall) n → IsNarrow n → ⊥) → HasNoMeasure l
no_measure_d l factor is none s c d h = none d (same_times factor (value_of l.fall) d (subst (λ (r : ℕ). IsSame (times (whole (pos r)) (halves (value_of l.fall))) (whole d)) (factor_only l factor s is h.factor) h.is_d)) h.fits_d

-- ---- shares
share_same : (factor : Factor) (z n : ℤ) (q : Fraction) → IsTimes factor z n → IsQuotient q (whole n) (whole (pos (times_in factor))) → IsSame (halves z) q
share_same One z n q e h = subst (λ (w : ℤ). w *ℤ den_of q ≡ q.num *ℤ pos 2) (sym e) (*ℤ_assoc (pos 2) n (den_of q) ∙ once (n *ℤ den_of q) q.num (given h))
  where
    given : IsQuotient q (whole n) (whole (pos 1)) → q.num ≡ n *ℤ den_of q
    given h = omega (arith, ints, h)

    once : (a b : ℤ) → b ≡ a → pos 2 *ℤ a ≡ b *ℤ pos 2
    once a b e = omega (arith, ints, e)
share_same Two z n q e h = subst (λ (w : ℤ). w *ℤ den_of q ≡ q.num *ℤ pos 2) (sym e) (sym (given h))
  where
    given : IsQuotient q (whole n) (whole (pos 2)) → q.num *ℤ pos 2 ≡ n *ℤ den_of q
    given h = omega (arith, ints, h)

pub is_made : (l : Levels) (m : Measure) → IsFactorOf l m.factor → pos 0 <ℤ value_of l.fall → IsTimes m.factor (value_of l.gate) m.c → IsTimes m.factor (value_of l.fall) m.d → IsNarrow m.c → IsNarrow m.d
    → IsQuotient m.gate (whole m.c) (whole (pos (times_in m.factor))) → IsQuotient m.fall (whole m.d) (whole (pos (times_in m.factor))) → IsMade l m
is_made l m is falls is_c is_d fits_c fits_d gate fall = record {
  gate = share_same m.factor (value_of l.gate) m.c m.gate is_c gate;
  fall = share_same m.factor (value_of l.fall) m.d m.fall is_d fall;
  measure = measure_is l m.factor m.c m.d is falls is_c is_d fits_c fits_d;
}
