-- The greatest common divisor of the rule is the greatest common divisor.
use Rattle.std.specs.Prelude.{ℕ, zero, suc, ◌%◌, ◌<◌, ◌≤◌, max, ◌≡◌, ◌==◌, ◌&&◌, true, false}
use Rattle.std.specs.Int.{IsGcd, ◌∣◌}
use Rattle.std.proofs.Common.{arith, refl, subst, ⊎_elim, eq-eqb, eqb-true}
use Rattle.std.proofs.lemmas.Bool.{cases_Bool, and_parts, and_from, both_ways}
use Rattle.std.proofs.Math.Nat.{dvd-zero, le_of_dvd, eq-zero_of_zero-dvd, dvd_of_mod-eq-zero, mod-eq-zero_of_dvd, pos_of_dvd_of_pos}
use Rattle.q128.specs.Rule.{gcd, greatest_up_to}
use Rattle.q128.proofs.Coprime.{euclid}

found : (n a b g : ℕ) → IsGcd a b g → 0 < g → g ≤ n → greatest_up_to n a b ≡ g
unfolding greatest_up_to
found zero a b g is low h = omega arith
found (suc n) a b g is low h =
    ⊎_elim (λ e. rw e (divides e)) (λ e. rw e (found n a b g is low (below e))) (cases_Bool ((a % suc n == 0) && (b % suc n == 0)))
  where
    divides : ((a % suc n == 0) && (b % suc n == 0)) ≡ true → suc n ≡ g
    divides e =
        let p = and_parts (a % suc n == 0) (b % suc n == 0) e in
        let d : suc n ∣ g = is.2 (suc n) (dvd_of_mod-eq-zero (suc n) (eqb-true _ _ p.0)) (dvd_of_mod-eq-zero (suc n) (eqb-true _ _ p.1)) in
        omega (arith, le_of_dvd low d)

    apart : ((a % suc n == 0) && (b % suc n == 0)) ≡ false → g ≡ suc n → ⊥
    apart e same =
        let d : suc n ∣ a = subst (λ k. k ∣ a) same is.0 in
        let f : suc n ∣ b = subst (λ k. k ∣ b) same is.1 in
        both_ways _ e (and_from _ _ (eq-eqb _ _ (mod-eq-zero_of_dvd (suc n) d)) (eq-eqb _ _ (mod-eq-zero_of_dvd (suc n) f)))

    below : ((a % suc n == 0) && (b % suc n == 0)) ≡ false → g ≤ n
    below e = omega (arith, apart e)

all_zero : (a b g : ℕ) → IsGcd a b g → g ≡ 0 → gcd a b ≡ g
unfolding gcd greatest_up_to
all_zero a b g is e =
    let f : a ≡ 0 = eq-zero_of_zero-dvd (subst (λ k. k ∣ a) e is.0) in
    let h : b ≡ 0 = eq-zero_of_zero-dvd (subst (λ k. k ∣ b) e is.1) in
    rw (e, f, h) refl

bound : (a b g : ℕ) → IsGcd a b g → 0 < g → g ≤ max a b
bound zero zero g is low = absurd (omega (arith, le_of_dvd low (is.2 (suc g) (dvd-zero (suc g)) (dvd-zero (suc g)))))
bound zero (suc b) g is low = omega (arith, le_of_dvd (omega arith) is.1)
bound (suc a) b g is low = omega (arith, le_of_dvd (omega arith) is.0)

above_zero : (a b g : ℕ) → IsGcd a b g → 0 < g → gcd a b ≡ g
unfolding gcd
above_zero a b g is low = found (max a b) a b g is low (bound a b g is low)

-- the number of that name is the greatest common divisor
pub gcd-is : (a b g : ℕ) → IsGcd a b g → gcd a b ≡ g
gcd-is a b zero is = all_zero a b zero is refl
gcd-is a b (suc g) is = above_zero a b (suc g) is (omega arith)

pub IsGcd-gcd : (a b : ℕ) → IsGcd a b (gcd a b)
IsGcd-gcd a b = let r = euclid (suc b) a b (omega arith) in rw (gcd-is a b r.g r.is) r.is

pub gcd_pos : (a b : ℕ) → 0 < b → 0 < gcd a b
gcd_pos a b h = pos_of_dvd_of_pos (IsGcd-gcd a b).1 h
