-- What it takes that the rule makes two numbers.
use Rattle.std.specs.Prelude.{ℕ, zero, suc, ◌*◌, ◌/◌, ◌^◌, ◌<◌, ◌≡◌, ℤ, pos, negsuc, neg_ℤ, ◌+ℤ◌, ◌*ℤ◌, unsigned_abs, int_div, Option, Some, None}
use Rattle.std.specs.Int.Signed.{mag}
use Rattle.std.proofs.Common.{arith, refl, sym, ap, ◌∙◌, subst}
use Rattle.std.proofs.Math.IntN.{*ℤ_comm}
use Rattle.q128.specs.Rule.{◌>>=◌, gcd, narrow, narrow_natural, ratio, made, signed, add_parts, mul_parts, inverse_parts}
use Rattle.q128.specs.Fraction.{Fraction}
use Rattle.q128.proofs.Ring.{ring, is_dif, dif-same}
use Rattle.q128.proofs.Abs.{abs-neg}
use Rattle.q128.proofs.Checked.{narrow-some, narrow_natural-some}

pub record Bound {A B : Type 0} (o : Option A) (f : A → Option B) (y : B) : Type 0 where
  pub x : A
  pub was : o ≡ Some x
  pub then_is : f x ≡ Some y

pub bind-some : {A B : Type 0} (o : Option A) (f : A → Option B) (y : B) → (o >>= f) ≡ Some y → Bound o f y
bind-some (Some x) f y e = record { x = x; was = refl; then_is = e }
bind-some None f y e = absurd (cc)

-- the numerator and the denominator of a sum before they are divided by their common divisor
pub record SumParts (a : ℤ) (b : ℕ) (c : ℤ) (d g : ℕ) (p : ℤ × ℕ) : Type 0 where
  pub top : ℤ
  pub bottom : ℕ
  pub top_is : top ≡ a *ℤ pos (d / g) +ℤ c *ℤ pos (b / g)
  pub bottom_is : bottom ≡ b / g * d
  pub bounded : bottom < 2 ^ 127
  pub num_is : p.0 ≡ int_div top (pos (gcd (unsigned_abs top) g))
  pub den_is : p.1 ≡ bottom / gcd (unsigned_abs top) g

sum_pair : (a : ℤ) (b : ℕ) (c : ℤ) (d g : ℕ) (top : ℤ) (bottom : ℕ) (p : ℤ × ℕ) → p ≡ (int_div top (pos (gcd (unsigned_abs top) g)), bottom / gcd (unsigned_abs top) g) → top ≡ a *ℤ pos (d / g) +ℤ c *ℤ pos (b / g) → (bottom ≡ b / g * d) × (bottom < 2 ^ 127) → SumParts a b c d g p
sum_pair a b c d g top bottom p e f h = record {
  top = top;
  bottom = bottom;
  top_is = f;
  bottom_is = h.0;
  bounded = h.1;
  num_is = ap (λ q. q.0) e;
  den_is = ap (λ q. q.1) e;
}

total : (u v x y t : ℤ) → x ≡ u → y ≡ v → t ≡ x +ℤ y → t ≡ u +ℤ v
total u v x y t e f h = h ∙ ap (λ z. z +ℤ y) e ∙ ap (λ z. u +ℤ z) f

pub sum_parts-made : (a : ℤ) (b : ℕ) (c : ℤ) (d g : ℕ) (p : ℤ × ℕ) → add_parts a b c d g ≡ Some p → SumParts a b c d g p
unfolding add_parts
sum_parts-made a b c d g p e =
    let last = λ (top : ℤ) (bottom : ℕ). Some (int_div top (pos (gcd (unsigned_abs top) g)), bottom / gcd (unsigned_abs top) g) in
    let third = λ (top : ℤ). narrow_natural (b / g * d) >>= last top in
    let second = λ (left right : ℤ). narrow (left +ℤ right) >>= third in
    let first = λ (left : ℤ). narrow (c *ℤ pos (b / g)) >>= second left in
    let l = bind-some (narrow (a *ℤ pos (d / g))) first p e in
    let r = bind-some (narrow (c *ℤ pos (b / g))) (second l.x) p l.then_is in
    let t = bind-some (narrow (l.x +ℤ r.x)) third p r.then_is in
    let m = bind-some (narrow_natural (b / g * d)) (last t.x) p t.then_is in
    let left = narrow-some (a *ℤ pos (d / g)) l.x l.was in
    let right = narrow-some (c *ℤ pos (b / g)) r.x r.was in
    let is = total (a *ℤ pos (d / g)) (c *ℤ pos (b / g)) l.x r.x t.x left right (narrow-some (l.x +ℤ r.x) t.x t.was) in
    sum_pair a b c d g t.x m.x p (cc (m.then_is)) is (narrow_natural-some (b / g * d) m.x m.was)

pub record ProductParts (a : ℤ) (b : ℕ) (c : ℤ) (d g h : ℕ) (p : ℤ × ℕ) : Type 0 where
  pub num_is : p.0 ≡ int_div a (pos g) *ℤ int_div c (pos h)
  pub den_is : p.1 ≡ b / h * (d / g)
  pub bounded : p.1 < 2 ^ 127

pub product_parts-made : (a : ℤ) (b : ℕ) (c : ℤ) (d g h : ℕ) (p : ℤ × ℕ) → mul_parts a b c d g h ≡ Some p → ProductParts a b c d g h p
unfolding mul_parts
product_parts-made a b c d g h p e =
    let last = λ (top : ℤ) (bottom : ℕ). Some (top, bottom) in
    let first = λ (top : ℤ). narrow_natural (b / h * (d / g)) >>= last top in
    let t = bind-some (narrow (int_div a (pos g) *ℤ int_div c (pos h))) first p e in
    let m = bind-some (narrow_natural (b / h * (d / g))) (last t.x) p t.then_is in
    let bottom = narrow_natural-some (b / h * (d / g)) m.x m.was in
    let is : (t.x, m.x) ≡ p = cc (m.then_is) in
    record {
      num_is = ap (λ q. q.0) (sym is) ∙ narrow-some (int_div a (pos g) *ℤ int_div c (pos h)) t.x t.was;
      den_is = ap (λ q. q.1) (sym is) ∙ bottom.0;
      bounded = subst (λ n. n < 2 ^ 127) (ap (λ q. q.1) is) bottom.1;
    }

pub record Made (o : Option (ℤ × ℕ)) (z : Fraction) : Type 0 where
  pub p : ℤ × ℕ
  pub was : o ≡ Some p
  pub is : z ≡ ratio p

pub made-some : (o : Option (ℤ × ℕ)) (z : Fraction) → made o ≡ Some z → Made o z
made-some (Some p) z e = let f : z ≡ ratio p = cc in record { p = p; was = refl; is = f }
made-some None z e = absurd (cc)

-- the sizes of what the sign rule makes
pub record SignedParts (t u : ℤ) (p : ℤ × ℕ) : Type 0 where
  pub num_size : unsigned_abs p.0 ≡ unsigned_abs t
  pub den_size : p.1 ≡ unsigned_abs u
  pub bounded : p.1 < 2 ^ 127
  pub same : p.0 *ℤ u ≡ t *ℤ pos p.1

both_neg : (t u : ℤ) → neg_ℤ t *ℤ neg_ℤ u ≡ t *ℤ u
both_neg t u = rw (← is_dif t, ← is_dif u) (simp ring (dif-same _ _ _ _ (omega arith)))

opposite : (t : ℤ) (n : ℕ) → neg_ℤ t *ℤ negsuc n ≡ t *ℤ pos (suc n)
opposite t n = both_neg t (pos (suc n))

signed_pair : (t : ℤ) (n : ℕ) (x : ℤ) (m : ℕ) → x ≡ neg_ℤ t → m ≡ suc n → m < 2 ^ 127 → SignedParts t (negsuc n) (x, m)
signed_pair t n x m e f h = record {
  num_size = ap unsigned_abs e ∙ abs-neg t;
  den_size = f;
  bounded = h;
  same = rw (e, f) (opposite t n);
}

pub signed-made : (t u : ℤ) (p : ℤ × ℕ) → mag u < 2 ^ 127 → signed t u ≡ Some p → SignedParts t u p
unfolding signed
signed-made t (pos n) p h e = let f : p ≡ (t, n) = cc in rw f (record { num_size = refl; den_size = refl; bounded = h; same = refl })
signed-made t (negsuc n) p h e =
    let last = λ (x : ℤ) (m : ℕ). Some (x, m) in
    let first = λ (x : ℤ). narrow_natural (suc n) >>= last x in
    let l = bind-some (narrow (neg_ℤ t)) first p e in
    let m = bind-some (narrow_natural (suc n)) (last l.x) p l.then_is in
    let is : p ≡ (l.x, m.x) = cc (m.then_is) in
    let bottom = narrow_natural-some (suc n) m.x m.was in
    rw is (signed_pair t n l.x m.x (narrow-some (neg_ℤ t) l.x l.was) bottom.0 bottom.1)

-- the inverse: its numerator is the denominator with the sign of the numerator
pub record InverseParts (a : ℤ) (b : ℕ) (p : ℤ × ℕ) : Type 0 where
  pub num_size : unsigned_abs p.0 ≡ b
  pub den_size : p.1 ≡ unsigned_abs a
  pub bounded : mag a < 2 ^ 127 → p.1 < 2 ^ 127
  pub positive : 0 < p.1
  pub same : p.0 *ℤ a ≡ pos p.1 *ℤ pos b

inverse_pair : (n b m : ℕ) → m ≡ suc n → m < 2 ^ 127 → InverseParts (negsuc n) b (neg_ℤ (pos b), m)
inverse_pair n b m e h = record {
  num_size = abs-neg (pos b);
  den_size = e;
  bounded = λ _. h;
  positive = omega arith;
  same = rw e (opposite (pos b) n ∙ *ℤ_comm (pos b) (pos (suc n)));
}

pub inverse_parts-made : (a : ℤ) (b : ℕ) (p : ℤ × ℕ) → inverse_parts a b ≡ Some p → InverseParts a b p
unfolding inverse_parts
inverse_parts-made (pos zero) b p e = absurd (cc)
inverse_parts-made (pos (suc n)) b p e =
    let f : p ≡ (pos b, suc n) = cc in
    rw f (record { num_size = refl; den_size = refl; bounded = λ h. h; positive = omega arith; same = *ℤ_comm (pos b) (pos (suc n)) })
inverse_parts-made (negsuc n) b p e =
    let last = λ (m : ℕ). Some (neg_ℤ (pos b), m) in
    let m = bind-some (narrow_natural (suc n)) last p e in
    let is : p ≡ (neg_ℤ (pos b), m.x) = cc (m.then_is) in
    let bottom = narrow_natural-some (suc n) m.x m.was in
    rw is (inverse_pair n b m.x bottom.0 bottom.1)
