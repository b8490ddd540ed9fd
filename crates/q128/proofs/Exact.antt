-- What the rule makes is the rational that is meant.
use Rattle.std.specs.Prelude.{ℕ, zero, suc, ◌+◌, ◌-◌, ◌*◌, ◌/◌, ◌^◌, ◌<◌, ◌≡◌, ℤ, pos, neg_ℤ, ◌+ℤ◌, ◌*ℤ◌, unsigned_abs, int_div, Option, Some, None, IfOk}
use Rattle.std.specs.Int.{◌∣◌, IsGcd}
use Rattle.std.specs.Int.Signed.{mag}
use Rattle.std.specs.Option.{ok_or}
use Rattle.std.proofs.Common.{arith, refl, sym, ap, ◌∙◌, subst}
use Rattle.std.proofs.Math.Nat.{div-mul_cancel, dvd-mul_left_of_dvd, dvd_trans}
use Rattle.q128.specs.Fraction.{Fraction, den_of, IsSame, IsQuotient, plus, minus, times}
use Rattle.q128.specs.Rule.{gcd, narrow, new_rule, new_parts, add_rule, add_parts, negate_rule, sub_rule, mul_rule, mul_parts, inverse_rule, inverse_parts, div_rule}
use Rattle.q128.proofs.Ring.{ring, is_dif, pos-dif, dif-same, *ℤ_assoc, *ℤ-swap, *ℤ_cancel, neg_ℤ-*ℤ}
use Rattle.q128.proofs.Abs.{int_div-*, abs-int_div, abs_pos, mag-int_div}
use Rattle.q128.proofs.Divisors.{IsGcd-gcd, gcd_pos}
use Rattle.q128.proofs.Checked.{narrow-some}
use Rattle.q128.proofs.Coprime.{div_pos, positive_product}
use Rattle.q128.proofs.Steps.{bind-some, made-some, sum_parts-made, product_parts-made, signed-made, inverse_parts-made}

-- what holds of each answer holds of the value in `Ok`
pub ok_or-each : {E : Type 0} (o : Option Fraction) (e : E) (P : Fraction → Type 0) → ((z : Fraction) → o ≡ Some z → P z) → IfOk (ok_or o e) P
ok_or-each (Some z) e P f = f z refl
ok_or-each None e P f = tt

-- one less and one more
pub less_more : (n : ℕ) → 0 < n → suc (n - 1) ≡ n
less_more n h = omega arith

-- ---- sums
sum_ring : (a c : ℤ) (B D g : ℕ) → (a *ℤ pos D +ℤ c *ℤ pos B) *ℤ pos (B * g * (D * g)) ≡ (a *ℤ pos (D * g) +ℤ c *ℤ pos (B * g)) *ℤ pos (B * (D * g))
sum_ring a c B D g = rw (← is_dif a, ← is_dif c) (simp (ring, pos-dif) (dif-same _ _ _ _ (omega arith)))

sum_same : (a c T : ℤ) (B D g k M : ℕ) → 0 < k → T *ℤ pos k ≡ a *ℤ pos D +ℤ c *ℤ pos B → M * k ≡ B * (D * g) → T *ℤ pos (B * g * (D * g)) ≡ (a *ℤ pos (D * g) +ℤ c *ℤ pos (B * g)) *ℤ pos M
sum_same a c T B D g zero M low e f = absurd (omega arith)
sum_same a c T B D g (suc k) M low e f =
    let S = a *ℤ pos (D * g) +ℤ c *ℤ pos (B * g) in
    let n = B * g * (D * g) in
    let left : (T *ℤ pos n) *ℤ pos (suc k) ≡ (a *ℤ pos D +ℤ c *ℤ pos B) *ℤ pos n = *ℤ-swap T (pos n) (pos (suc k)) ∙ ap (λ z. z *ℤ pos n) e in
    let right : (S *ℤ pos M) *ℤ pos (suc k) ≡ S *ℤ pos (B * (D * g)) = *ℤ_assoc S (pos M) (pos (suc k)) ∙ ap (λ m. S *ℤ pos m) f in
    *ℤ_cancel (T *ℤ pos n) (S *ℤ pos M) k (left ∙ sum_ring a c B D g ∙ sym right)

-- the product of two denominators
common_is : (m n : ℕ) → suc (m * suc n + n) ≡ suc m * suc n
common_is m n = omega arith

sum_of_parts : (a : ℤ) (b : ℕ) (c : ℤ) (d : ℕ) (p : ℤ × ℕ) → 0 < b → 0 < d → add_parts a b c d (gcd b d) ≡ Some p → (p.0 *ℤ pos (b * d) ≡ (a *ℤ pos d +ℤ c *ℤ pos b) *ℤ pos p.1) × (0 < p.1)
sum_of_parts a b c d p low_b low_d e =
    let g = gcd b d in
    let is : IsGcd b d g = IsGcd-gcd b d in
    let s = sum_parts-made a b c d g p e in
    let k = gcd (unsigned_abs s.top) g in
    let ik : IsGcd (unsigned_abs s.top) g k = IsGcd-gcd (unsigned_abs s.top) g in
    let low_g : 0 < g = gcd_pos b d low_d in
    let low_k : 0 < k = gcd_pos (unsigned_abs s.top) g low_g in
    let B = b / g in
    let D = d / g in
    let is_b : B * g ≡ b = div-mul_cancel g is.0 in
    let is_d : D * g ≡ d = div-mul_cancel g is.1 in
    let divides : k ∣ s.bottom = subst (λ n. k ∣ n) (sym s.bottom_is) (dvd-mul_left_of_dvd k (dvd_trans k ik.1 is.1) B) in
    let num : p.0 *ℤ pos k ≡ a *ℤ pos D +ℤ c *ℤ pos B = ap (λ z. z *ℤ pos k) s.num_is ∙ int_div-* s.top k ik.0 ∙ s.top_is in
    let den : p.1 * k ≡ B * (D * g) = ap (λ n. n * k) s.den_is ∙ div-mul_cancel k divides ∙ s.bottom_is ∙ ap (λ n. B * n) (sym is_d) in
    let same : p.0 *ℤ pos (B * g * (D * g)) ≡ (a *ℤ pos (D * g) +ℤ c *ℤ pos (B * g)) *ℤ pos p.1 = sum_same a c p.0 B D g k p.1 low_k num den in
    let some : 0 < s.bottom = subst (λ n. 0 < n) (sym s.bottom_is) (positive_product B d (div_pos b g low_b is.0) low_d) in (
      subst (λ n. p.0 *ℤ pos (n * d) ≡ (a *ℤ pos d +ℤ c *ℤ pos n) *ℤ pos p.1) is_b
          (subst (λ n. p.0 *ℤ pos (B * g * n) ≡ (a *ℤ pos n +ℤ c *ℤ pos (B * g)) *ℤ pos p.1) is_d same),
      subst (λ n. 0 < n) (sym s.den_is) (div_pos s.bottom k some divides),
    )

pub add-exact : (x y z : Fraction) → add_rule x y ≡ Some z → IsSame z (plus x y)
unfolding add_rule
add-exact x y z e =
    let b = suc x.den_less_one in
    let d = suc y.den_less_one in
    let m = made-some (add_parts x.num b y.num d (gcd b d)) z e in
    let s = sum_of_parts x.num b y.num d m.p (omega arith) (omega arith) m.was in
    rw (m.is, common_is x.den_less_one y.den_less_one, less_more m.p.1 s.1) s.0

-- ---- differences
minus_is : (x y w : Fraction) → w ≡ record { num = neg_ℤ y.num; den_less_one = y.den_less_one } → plus x w ≡ minus x y
minus_is x y w e = rw e (ap (λ n. record { num = x.num *ℤ den_of y +ℤ n; den_less_one = x.den_less_one * suc y.den_less_one + y.den_less_one }) (neg_ℤ-*ℤ y.num (den_of x)))

negate-made : (y w : Fraction) → negate_rule y ≡ Some w → w ≡ record { num = neg_ℤ y.num; den_less_one = y.den_less_one }
unfolding negate_rule
negate-made y w e =
    let last = λ (n : ℤ). Some (make n) in
    let n = bind-some (narrow (neg_ℤ y.num)) last w e in
    let is : w ≡ make n.x = cc (n.then_is) in
    is ∙ ap make (narrow-some (neg_ℤ y.num) n.x n.was)
  where
    make : ℤ → Fraction
    make n = record { num = n; den_less_one = y.den_less_one }

pub sub-exact : (x y z : Fraction) → sub_rule x y ≡ Some z → IsSame z (minus x y)
unfolding sub_rule
sub-exact x y z e =
    let w = bind-some (negate_rule y) (add_rule x) z e in
    subst (λ s. IsSame z s) (minus_is x y w.x (negate-made y w.x w.was)) (add-exact x w.x z w.then_is)

-- ---- products
product_ring : (A C : ℤ) (B D g h : ℕ) → (A *ℤ C) *ℤ pos (B * h * (D * g)) ≡ ((A *ℤ pos g) *ℤ (C *ℤ pos h)) *ℤ pos (B * D)
product_ring A C B D g h = rw (← is_dif A, ← is_dif C) (simp (ring, pos-dif) (dif-same _ _ _ _ (omega arith)))

product_of_parts : (a : ℤ) (b : ℕ) (c : ℤ) (d : ℕ) (p : ℤ × ℕ) → 0 < b → 0 < d → mul_parts a b c d (gcd (unsigned_abs a) d) (gcd (unsigned_abs c) b) ≡ Some p → (p.0 *ℤ pos (b * d) ≡ (a *ℤ c) *ℤ pos p.1) × (0 < p.1)
product_of_parts a b c d p low_b low_d e =
    let g = gcd (unsigned_abs a) d in
    let h = gcd (unsigned_abs c) b in
    let s = product_parts-made a b c d g h p e in
    let ig : IsGcd (unsigned_abs a) d g = IsGcd-gcd (unsigned_abs a) d in
    let ih : IsGcd (unsigned_abs c) b h = IsGcd-gcd (unsigned_abs c) b in
    let A = int_div a (pos g) in
    let C = int_div c (pos h) in
    let B = b / h in
    let D = d / g in
    let same : (A *ℤ C) *ℤ pos (b * d) ≡ (a *ℤ c) *ℤ pos (B * D) =
    subst (λ n. (A *ℤ C) *ℤ pos (n * d) ≡ (a *ℤ c) *ℤ pos (B * D)) (div-mul_cancel h ih.1)
    (subst (λ n. (A *ℤ C) *ℤ pos (B * h * n) ≡ (a *ℤ c) *ℤ pos (B * D)) (div-mul_cancel g ig.1)
    (subst (λ z. (A *ℤ C) *ℤ pos (B * h * (D * g)) ≡ (z *ℤ c) *ℤ pos (B * D)) (int_div-* a g ig.0)
    (subst (λ z. (A *ℤ C) *ℤ pos (B * h * (D * g)) ≡ ((A *ℤ pos g) *ℤ z) *ℤ pos (B * D)) (int_div-* c h ih.0) (product_ring A C B D g h)))) in (
      subst (λ n. p.0 *ℤ pos (b * d) ≡ (a *ℤ c) *ℤ pos n) (sym s.den_is) (subst (λ z. z *ℤ pos (b * d) ≡ (a *ℤ c) *ℤ pos (B * D)) (sym s.num_is) same),
      subst (λ n. 0 < n) (sym s.den_is) (positive_product B D (div_pos b h low_b ih.1) (div_pos d g low_d ig.1)),
    )

pub mul-exact : (x y z : Fraction) → mul_rule x y ≡ Some z → IsSame z (times x y)
unfolding mul_rule
mul-exact x y z e =
    let b = suc x.den_less_one in
    let d = suc y.den_less_one in
    let m = made-some (mul_parts x.num b y.num d (gcd (unsigned_abs x.num) d) (gcd (unsigned_abs y.num) b)) z e in
    let s = product_of_parts x.num b y.num d m.p (omega arith) (omega arith) m.was in
    rw (m.is, common_is x.den_less_one y.den_less_one, less_more m.p.1 s.1) s.0

-- ---- quotients
inverse-made : (y w : Fraction) → inverse_rule y ≡ Some w → w.num *ℤ y.num ≡ den_of w *ℤ den_of y
unfolding inverse_rule
inverse-made y w e =
    let m = made-some (inverse_parts y.num (suc y.den_less_one)) w e in
    let s = inverse_parts-made y.num (suc y.den_less_one) m.p m.was in
    rw (m.is, less_more m.p.1 s.positive) s.same

quotient_ring : (zn zd xn xd yn yd wn wd : ℤ) → zn *ℤ (xd *ℤ wd) ≡ (xn *ℤ wn) *ℤ zd → wn *ℤ yn ≡ wd *ℤ yd → ((zn *ℤ yn) *ℤ xd) *ℤ wd ≡ (xn *ℤ (zd *ℤ yd)) *ℤ wd
quotient_ring zn zd xn xd yn yd wn wd e f = first zn yn xd wd ∙ ap (λ k. k *ℤ yn) e ∙ second xn wn zd yn ∙ ap (λ k. (xn *ℤ zd) *ℤ k) f ∙ third xn zd wd yd
  where
    first : (zn yn xd wd : ℤ) → ((zn *ℤ yn) *ℤ xd) *ℤ wd ≡ (zn *ℤ (xd *ℤ wd)) *ℤ yn
    first zn yn xd wd = rw (← is_dif zn, ← is_dif yn, ← is_dif xd, ← is_dif wd) (simp ring (dif-same _ _ _ _ (omega arith)))

    second : (xn wn zd yn : ℤ) → ((xn *ℤ wn) *ℤ zd) *ℤ yn ≡ (xn *ℤ zd) *ℤ (wn *ℤ yn)
    second xn wn zd yn = rw (← is_dif xn, ← is_dif wn, ← is_dif zd, ← is_dif yn) (simp ring (dif-same _ _ _ _ (omega arith)))

    third : (xn zd wd yd : ℤ) → (xn *ℤ zd) *ℤ (wd *ℤ yd) ≡ (xn *ℤ (zd *ℤ yd)) *ℤ wd
    third xn zd wd yd = rw (← is_dif xn, ← is_dif zd, ← is_dif wd, ← is_dif yd) (simp ring (dif-same _ _ _ _ (omega arith)))

pub div-exact : (x y z : Fraction) → div_rule x y ≡ Some z → IsQuotient z x y
unfolding div_rule
div-exact x y z e =
    let w = bind-some (inverse_rule y) (mul_rule x) z e in
    let product : z.num *ℤ (den_of x *ℤ den_of w.x) ≡ (x.num *ℤ w.x.num) *ℤ den_of z = subst (λ n. z.num *ℤ pos n ≡ (x.num *ℤ w.x.num) *ℤ den_of z) (common_is x.den_less_one w.x.den_less_one) (mul-exact x w.x z w.then_is) in
    let all = quotient_ring z.num (den_of z) x.num (den_of x) y.num (den_of y) w.x.num (den_of w.x) product (inverse-made y w.x w.was) in
    let e : (z.num *ℤ y.num) *ℤ den_of x ≡ x.num *ℤ (den_of z *ℤ den_of y) = *ℤ_cancel ((z.num *ℤ y.num) *ℤ den_of x) (x.num *ℤ (den_of z *ℤ den_of y)) w.x.den_less_one all in
    rw (common_is z.den_less_one y.den_less_one) e

-- ---- a / b
new_ring : (t u g m : ℤ) (p : ℤ) → p *ℤ u ≡ t *ℤ m → p *ℤ (u *ℤ g) ≡ (t *ℤ g) *ℤ m
new_ring t u g m p e = sym (*ℤ_assoc p u g) ∙ ap (λ k. k *ℤ g) e ∙ *ℤ-swap t m g

pub new-exact : (a b : ℤ) (z : Fraction) → (b ≡ pos 0 → ⊥) → mag b < 2 ^ 127 → new_rule a b ≡ Some z → z.num *ℤ b ≡ a *ℤ den_of z
unfolding new_rule
new-exact a b z some h e =
    let g = gcd (unsigned_abs a) (unsigned_abs b) in
    let is : IsGcd (unsigned_abs a) (unsigned_abs b) g = IsGcd-gcd (unsigned_abs a) (unsigned_abs b) in
    let m = made-some (new_parts a b g) z e in
    let t = int_div a (pos g) in
    let u = int_div b (pos g) in
    let fits : mag u < 2 ^ 127 = omega (arith, mag-int_div b g) in
    let s = signed-made t u m.p fits m.was in
    let low : 0 < m.p.1 = subst (λ n. 0 < n) (sym (s.den_size ∙ abs-int_div b g)) (div_pos (unsigned_abs b) g (abs_pos b some) is.1) in
    let all : m.p.0 *ℤ (u *ℤ pos g) ≡ (t *ℤ pos g) *ℤ pos m.p.1 = new_ring t u (pos g) (pos m.p.1) m.p.0 s.same in
    let plain : m.p.0 *ℤ b ≡ a *ℤ pos m.p.1 = subst (λ k. m.p.0 *ℤ k ≡ a *ℤ pos m.p.1) (int_div-* b g is.1) (subst (λ k. m.p.0 *ℤ (u *ℤ pos g) ≡ k *ℤ pos m.p.1) (int_div-* a g is.0) all) in
    rw (m.is, less_more m.p.1 low) plain
