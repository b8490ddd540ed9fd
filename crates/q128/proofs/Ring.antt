-- The ring laws of ℤ, its order, and a way to more of them. A whole number is written `dif m n`, m less n. An identity
-- of sums, products and negatives is then one of polynomials over ℕ, which `omega` multiplies out:
--     rw (← is_dif a, ← is_dif b) (simp ring (dif-same _ _ _ _ (omega arith)))
use Rattle.std.specs.Prelude.{ℤ, pos, ◌+ℤ◌, ◌*ℤ◌, ◌-ℤ◌, neg_ℤ, ◌≤ℤ◌, ◌<ℤ◌, ◌≡◌, ℕ, suc, ◌*◌, ◌+◌, ◌-◌, ◌≤◌}
use Rattle.std.proofs.Common.{arith, ap, ◌∙◌}
use Rattle.std.proofs.lemmas.Int.{ints, by_lt_z}
use borrow.Author.Differences.{up, down, same_in, product_is}

unfoldable pub dif : ℕ → ℕ → ℤ
dif m n = pos m -ℤ pos n

up-dif : (m n : ℕ) → up (dif m n) + n ≡ down (dif m n) + m
unfolding dif
up-dif m n = omega (arith, ints)

pub dif-same : (m n p q : ℕ) → m + q ≡ p + n → dif m n ≡ dif p q
dif-same m n p q e = same_in _ _ (omega (arith, up-dif m n, up-dif p q))

pub same-dif : (m n p q : ℕ) → dif m n ≡ dif p q → m + q ≡ p + n
same-dif m n p q e = omega (arith, up-dif m n, up-dif p q, ap up e, ap down e)

pub is_dif : (a : ℤ) → dif (up a) (down a) ≡ a
is_dif a = same_in _ _ (omega (arith, up-dif (up a) (down a)))

pub pos-dif : (n : ℕ) → pos n ≡ dif n 0
pos-dif n = same_in _ _ (omega (arith, up-dif n 0))

pub dif-+ : (m n p q : ℕ) → dif m n +ℤ dif p q ≡ dif (m + p) (n + q)
dif-+ m n p q = omega (arith, ints, up-dif m n, up-dif p q, up-dif (m + p) (n + q))

pub dif-neg : (m n : ℕ) → neg_ℤ (dif m n) ≡ dif n m
dif-neg m n = omega (arith, ints, up-dif m n, up-dif n m)

dif-*-ℕ : (x y m n z w p q : ℕ) → x + n ≡ y + m → z + q ≡ w + p → (x * z + y * w) + (m * q + n * p) ≡ (x * w + y * z) + (m * p + n * q)
dif-*-ℕ x y m n z w p q e f =
    let e1 : (x + n) * z ≡ (y + m) * z = ap (λ k. k * z) e in
    let e2 : (x + n) * w ≡ (y + m) * w = ap (λ k. k * w) e in
    let f1 : n * (z + q) ≡ n * (w + p) = ap (λ k. n * k) f in
    let f2 : m * (z + q) ≡ m * (w + p) = ap (λ k. m * k) f in
    omega arith

pub dif-* : (m n p q : ℕ) → dif m n *ℤ dif p q ≡ dif (m * p + n * q) (m * q + n * p)
dif-* m n p q =
    let u = product_is (dif m n) (dif p q) in
    let v = up-dif (m * p + n * q) (m * q + n * p) in
    let e = dif-*-ℕ (up (dif m n)) (down (dif m n)) m n (up (dif p q)) (down (dif p q)) p q (up-dif m n) (up-dif p q) in
    same_in _ _ (omega (arith, u.0, u.1, v, e))

pub ruleset ring = (dif-*, dif-+, dif-neg)

-- ---- the ring laws that the library lacks
pub *ℤ_assoc : (a b c : ℤ) → (a *ℤ b) *ℤ c ≡ a *ℤ (b *ℤ c)
*ℤ_assoc a b c = rw (← is_dif a, ← is_dif b, ← is_dif c) (simp ring (dif-same _ _ _ _ (omega arith)))

pub +ℤ-*ℤ : (a b c : ℤ) → (a +ℤ b) *ℤ c ≡ a *ℤ c +ℤ b *ℤ c
+ℤ-*ℤ a b c = rw (← is_dif a, ← is_dif b, ← is_dif c) (simp ring (dif-same _ _ _ _ (omega arith)))

pub *ℤ-+ℤ : (a b c : ℤ) → a *ℤ (b +ℤ c) ≡ a *ℤ b +ℤ a *ℤ c
*ℤ-+ℤ a b c = rw (← is_dif a, ← is_dif b, ← is_dif c) (simp ring (dif-same _ _ _ _ (omega arith)))

pub neg_ℤ-*ℤ : (a b : ℤ) → neg_ℤ a *ℤ b ≡ neg_ℤ (a *ℤ b)
neg_ℤ-*ℤ a b = rw (← is_dif a, ← is_dif b) (simp ring (dif-same _ _ _ _ (omega arith)))

pub *ℤ-swap : (a b c : ℤ) → (a *ℤ b) *ℤ c ≡ (a *ℤ c) *ℤ b
*ℤ-swap a b c = rw (← is_dif a, ← is_dif b, ← is_dif c) (simp ring (dif-same _ _ _ _ (omega arith)))

-- ---- the order
pub le_dif : (m n p q : ℕ) → m + q ≤ p + n → dif m n ≤ℤ dif p q
le_dif m n p q h = omega (arith, ints, up-dif m n, up-dif p q)

-- b is a and some more
pub ≤ℤ-more : (a b : ℤ) → a ≤ℤ b → (k : ℕ) × (b ≡ a +ℤ pos k)
≤ℤ-more a b h = (up b + down a - (up a + down b), omega (arith, ints))

pub more-≤ℤ : (a : ℤ) (k : ℕ) → a ≤ℤ (a +ℤ pos k)
more-≤ℤ a k = omega (arith, ints)

-- a product with a number that isn't negative keeps the order
pub *ℤ-mono : (a b : ℤ) (n : ℕ) → a ≤ℤ b → (a *ℤ pos n) ≤ℤ (b *ℤ pos n)
*ℤ-mono a b n h =
    let m = ≤ℤ-more a b h in
    let e : b *ℤ pos n ≡ a *ℤ pos n +ℤ pos (m.0 * n) = ap (λ z. z *ℤ pos n) m.1 ∙ +ℤ-*ℤ a (pos m.0) (pos n) in
    rw e (more-≤ℤ (a *ℤ pos n) (m.0 * n))

-- and a positive factor can be left out
pub *ℤ-mono_back : (a b : ℤ) (n : ℕ) → (a *ℤ pos (suc n)) ≤ℤ (b *ℤ pos (suc n)) → a ≤ℤ b
*ℤ-mono_back a b n h = by_lt_z b a (λ lt. absurd (clash lt)) (λ le. le)
  where
    clash : b <ℤ a → ⊥
    clash lt =
        let le : (b +ℤ pos 1) ≤ℤ a = omega (arith, ints) in
        let more : (b +ℤ pos 1) *ℤ pos (suc n) ≡ b *ℤ pos (suc n) +ℤ pos (1 * suc n) = +ℤ-*ℤ b (pos 1) (pos (suc n)) in
        let m : (b *ℤ pos (suc n) +ℤ pos (1 * suc n)) ≤ℤ (a *ℤ pos (suc n)) = rw more at (*ℤ-mono (b +ℤ pos 1) a (suc n) le) in
        omega (arith, ints)

pub *ℤ_cancel : (a b : ℤ) (n : ℕ) → a *ℤ pos (suc n) ≡ b *ℤ pos (suc n) → a ≡ b
*ℤ_cancel a b n e =
    let le : a ≤ℤ b = *ℤ-mono_back a b n (omega (arith, ints)) in
    let ge : b ≤ℤ a = *ℤ-mono_back b a n (omega (arith, ints)) in
    omega (arith, ints)
