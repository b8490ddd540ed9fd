-- Numbers that only 1 divides, and Euclid's algorithm.
use Rattle.std.specs.Prelude.{ℕ, zero, suc, ◌+◌, ◌*◌, ◌/◌, ◌%◌, ◌<◌, ◌≡◌}
use Rattle.std.specs.Int.{IsGcd, ◌∣◌}
use Rattle.std.proofs.Common.{arith, refl, sym, ap, subst}
use Rattle.std.proofs.lemmas.Nat.Gcd.{IsGcd-from_zero, IsGcd-from_mod}
use Rattle.std.proofs.Math.Nat.{dvd_refl, dvd_trans, dvd-mul_right, dvd-mul_left_of_dvd, dvd-add_iff_right, eq-one_of_dvd-one, dvd_of_mul-dvd-mul_right, mul-dvd-mul_right, div-mul_cancel}
use Rattle.std.specs.Prelude.{ℤ, pos, ◌+ℤ◌, ◌*ℤ◌, unsigned_abs}
use Rattle.std.proofs.lemmas.Int.{unsigned_abs-mul}
use Rattle.q128.proofs.Abs.{dvd_abs-+}

-- only 1 divides both
unfoldable pub IsCoprime : ℕ → ℕ → Type 0
IsCoprime a b = (d : ℕ) → d ∣ a → d ∣ b → d ≡ 1

-- ---- Euclid's way to it, which also shows that it divides n times it
pub record Euclid (a b : ℕ) : Type 0 where
  pub g : ℕ
  pub is : IsGcd a b g
  pub scaled : (d n : ℕ) → d ∣ a * n → d ∣ b * n → d ∣ g * n

rest : (a b d n : ℕ) → d ∣ a * n → d ∣ b * n → d ∣ a % b * n
rest a b d n p q =
    let e : a / b * (b * n) + a % b * n ≡ a * n = sum_is (omega arith) in
    let h : d ∣ a / b * (b * n) + a % b * n = subst (λ k. d ∣ k) (sym e) p in
    (dvd-add_iff_right d {m = a / b * (b * n)} {n = a % b * n} (dvd-mul_left_of_dvd d q (a / b))).1 h
  where
    sum_is : a ≡ b * (a / b) + a % b → a / b * (b * n) + a % b * n ≡ a * n
    sum_is e = let f : a * n ≡ (b * (a / b) + a % b) * n = ap (λ k. k * n) e in omega arith

pub euclid : (fuel a b : ℕ) → b < fuel → Euclid a b
euclid zero a b h = absurd (omega arith)
euclid (suc f) a zero h = record { g = a; is = IsGcd-from_zero a 0 refl; scaled = λ d n p q. p }
euclid (suc f) a (suc b) h =
    let r = euclid f (suc b) (a % suc b) (omega arith) in
    record {
      g = r.g;
      is = IsGcd-from_mod a (suc b) r.g r.is;
      scaled = λ d n p q. r.scaled d n q (rest a (suc b) d n p q);
    }

-- Euclid's lemma (Elements VII.30)
pub divides_other : (d a n : ℕ) → IsCoprime d a → d ∣ a * n → d ∣ n
unfolding IsCoprime
divides_other d a n c h =
    let r = euclid (suc a) d a (omega arith) in
    let p : d ∣ r.g * n = r.scaled d n (dvd-mul_right d n) h in
    let e : r.g ≡ 1 = c r.g r.is.0 r.is.1 in
    subst (λ k. d ∣ k) (one_times n r.g e) p
  where
    one_times : (n k : ℕ) → k ≡ 1 → k * n ≡ n
    one_times n k e = rw e (omega arith)

pub coprime : (a b : ℕ) → ((d : ℕ) → d ∣ a → d ∣ b → d ≡ 1) → IsCoprime a b
unfolding IsCoprime
coprime a b f = f

pub only_one : (a b : ℕ) → IsCoprime a b → (d : ℕ) → d ∣ a → d ∣ b → d ≡ 1
unfolding IsCoprime
only_one a b c = c

pub coprime-swap : (a b : ℕ) → IsCoprime a b → IsCoprime b a
coprime-swap a b c = coprime b a (λ d p q. only_one a b c d q p)

pub coprime-parts : (a b p q : ℕ) → p ∣ a → q ∣ b → IsCoprime a b → IsCoprime p q
coprime-parts a b p q h k c = coprime p q (λ d m n. only_one a b c d (dvd_trans d m h) (dvd_trans d n k))

pub coprime-* : (a b c : ℕ) → IsCoprime a c → IsCoprime b c → IsCoprime (a * b) c
coprime-* a b c p q = coprime (a * b) c (λ d m n.
    only_one b c q d (divides_other d a b (coprime-parts c a d a n (dvd_refl a) (coprime-swap a c p)) m) n)

-- the quotients by the greatest common divisor
pub coprime-/ : (a b g : ℕ) → IsGcd a b g → 0 < g → IsCoprime (a / g) (b / g)
coprime-/ a b g is low = coprime (a / g) (b / g) (λ d p q.
    let e : d * g ∣ a = subst (λ k. d * g ∣ k) (div-mul_cancel g is.0) (mul-dvd-mul_right d p g) in
    let f : d * g ∣ b = subst (λ k. d * g ∣ k) (div-mul_cancel g is.1) (mul-dvd-mul_right d q g) in
    let h : d * g ∣ 1 * g = subst (λ k. d * g ∣ k) (omega arith) (is.2 (d * g) e f) in
    eq-one_of_dvd-one (dvd_of_mul-dvd-mul_right d low h))

-- where t shares nothing with p and q, what it shares with p * (q * g) it shares with g
pub coprime-/-* : (t p q g k : ℕ) → IsCoprime t p → IsCoprime t q → IsGcd t g k → 0 < k → IsCoprime (t / k) (p * (q * g) / k)
coprime-/-* t p q g k cp cq is low = coprime (t / k) (p * (q * g) / k) (λ d u v.
    let e : d * k ∣ t = subst (λ n. d * k ∣ n) (div-mul_cancel k is.0) (mul-dvd-mul_right d u k) in
    let whole : k ∣ p * (q * g) = dvd-mul_left_of_dvd k (dvd-mul_left_of_dvd k is.1 q) p in
    let f : d * k ∣ p * (q * g) = subst (λ n. d * k ∣ n) (div-mul_cancel k whole) (mul-dvd-mul_right d v k) in
    let f1 : d * k ∣ q * g = divides_other (d * k) p (q * g) (coprime-parts t p (d * k) p e (dvd_refl p) cp) f in
    let f2 : d * k ∣ g = divides_other (d * k) q g (coprime-parts t q (d * k) q e (dvd_refl q) cq) f1 in
    let h : d * k ∣ 1 * k = subst (λ n. d * k ∣ n) (omega arith) (is.2 (d * k) e f2) in
    eq-one_of_dvd-one (dvd_of_mul-dvd-mul_right d low h))

-- ---- quotients and products
-- a quotient of a positive number by a divisor is positive
pub div_pos : (n k : ℕ) → 0 < n → k ∣ n → 0 < n / k
div_pos n k h d = from (n / k) (div-mul_cancel k d)
  where
    from : (q : ℕ) → q * k ≡ n → 0 < q
    from zero e = omega arith
    from (suc q) e = omega arith

pub quotient_divides : (b g : ℕ) → g ∣ b → b / g ∣ b
quotient_divides b g h = subst (λ n. b / g ∣ n) (div-mul_cancel g h) (dvd-mul_right (b / g) g)

pub positive_product : (m n : ℕ) → 0 < m → 0 < n → 0 < m * n
positive_product zero n h k = absurd (omega arith)
positive_product (suc m) zero h k = absurd (omega arith)
positive_product (suc m) (suc n) h k = omega arith

-- in a * D + c * B, where B shares nothing with a and D, nothing is shared with B
pub other_part : (a c : ℤ) (B D : ℕ) → IsCoprime (unsigned_abs a) B → IsCoprime D B → IsCoprime (unsigned_abs (a *ℤ pos D +ℤ c *ℤ pos B)) B
other_part a c B D ca cd = coprime (unsigned_abs (a *ℤ pos D +ℤ c *ℤ pos B)) B (λ e p q.
    let right : e ∣ unsigned_abs (c *ℤ pos B) = subst (λ n. e ∣ n) (sym (unsigned_abs-mul c (pos B))) (dvd-mul_left_of_dvd e q (unsigned_abs c)) in
    let left : e ∣ unsigned_abs a * D = subst (λ n. e ∣ n) (unsigned_abs-mul a (pos D)) (dvd_abs-+ e (a *ℤ pos D) (c *ℤ pos B) p right) in
    let both : IsCoprime (unsigned_abs a * D) B = coprime-* (unsigned_abs a) D B ca cd in
    only_one (unsigned_abs a * D) B both e left q)
