-- The size of a whole number, what divides it, and exact quotients.
use Rattle.std.specs.Prelude.{ℕ, zero, suc, ◌/◌, ◌≡◌, ℤ, pos, negsuc, neg_ℤ, ◌+ℤ◌, ◌-ℤ◌, ◌*ℤ◌, unsigned_abs, int_div, ◌<◌, ◌≤◌}
use Rattle.std.specs.Int.Signed.{mag}
use Rattle.std.specs.Int.{◌∣◌}
use Rattle.std.proofs.Common.{arith, refl, sym, ap, ◌∙◌, subst}
use Rattle.std.proofs.lemmas.Int.{ints, unsigned_abs-mul}
use Rattle.std.proofs.Math.Nat.{div-mul_cancel, dvd-mul_left, div-le_self}
use Rattle.q128.proofs.Ring.{+ℤ-*ℤ, neg_ℤ-*ℤ}

pub abs-neg : (z : ℤ) → unsigned_abs (neg_ℤ z) ≡ unsigned_abs z
abs-neg (pos zero) = refl
abs-neg (pos (suc n)) = refl
abs-neg (negsuc n) = refl

pub abs-int_div : (z : ℤ) (k : ℕ) → unsigned_abs (int_div z (pos k)) ≡ unsigned_abs z / k
abs-int_div (pos n) k = refl
abs-int_div (negsuc n) k = abs-neg (pos (suc n / k))

-- an exact quotient
pub int_div-* : (z : ℤ) (k : ℕ) → k ∣ unsigned_abs z → int_div z (pos k) *ℤ pos k ≡ z
int_div-* (pos n) k h = ap pos (div-mul_cancel k h)
int_div-* (negsuc n) k h = neg_ℤ-*ℤ (pos (suc n / k)) (pos k) ∙ ap (λ m. neg_ℤ (pos m)) (div-mul_cancel k h)

-- some multiple of d
multiple : (d : ℕ) (z : ℤ) → d ∣ unsigned_abs z → (q : ℤ) × (z ≡ q *ℤ pos d)
multiple d z h = (int_div z (pos d), sym (int_div-* z d h))

pub dvd_abs : (d : ℕ) (z q : ℤ) → z ≡ q *ℤ pos d → d ∣ unsigned_abs z
dvd_abs d z q e = subst (λ n. d ∣ n) (sym (ap unsigned_abs e ∙ unsigned_abs-mul q (pos d))) (dvd-mul_left d (unsigned_abs q))

-- what divides a sum and one part divides the other
pub dvd_abs-+ : (d : ℕ) (x y : ℤ) → d ∣ unsigned_abs (x +ℤ y) → d ∣ unsigned_abs y → d ∣ unsigned_abs x
dvd_abs-+ d x y h k =
    let s = multiple d (x +ℤ y) h in
    let t = multiple d y k in
    let e : x ≡ (s.0 -ℤ t.0) *ℤ pos d = less (s.0) (t.0) s.1 t.1 in
    dvd_abs d x (s.0 -ℤ t.0) e
  where
    less : (q r : ℤ) → x +ℤ y ≡ q *ℤ pos d → y ≡ r *ℤ pos d → x ≡ (q -ℤ r) *ℤ pos d
    less q r e f = rw (+ℤ-*ℤ q (neg_ℤ r) (pos d), neg_ℤ-*ℤ r (pos d)) (omega (arith, ints))

pub mag-int_div : (z : ℤ) (k : ℕ) → mag (int_div z (pos k)) ≤ mag z
mag-int_div (pos n) k = div-le_self n k
mag-int_div (negsuc n) k = below (suc n / k) (div-le_self (suc n) k)
  where
    below : (m : ℕ) → m ≤ suc n → mag (neg_ℤ (pos m)) ≤ n
    below zero h = omega arith
    below (suc m) h = omega arith

pub abs_pos : (b : ℤ) → (b ≡ pos 0 → ⊥) → 0 < unsigned_abs b
abs_pos (pos zero) f = absurd (f refl)
abs_pos (pos (suc n)) f = omega arith
abs_pos (negsuc n) f = omega arith
