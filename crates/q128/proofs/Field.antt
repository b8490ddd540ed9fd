-- Fractions up to `IsSame` are an ordered field: the laws that sums of products stand on.
use Rattle.std.specs.Prelude.{ℕ, suc, ◌+◌, ◌*◌, ◌≡◌, ℤ, pos, negsuc, ◌+ℤ◌, ◌-ℤ◌, ◌*ℤ◌, ◌≤ℤ◌}
use Rattle.std.proofs.Common.{arith, refl, sym, ap, ◌∙◌, subst}
use Rattle.std.proofs.lemmas.Int.{ints}
use Rattle.q128.specs.Fraction.{Fraction, den_of, whole, IsSame, IsAtMost, plus, minus, times}
use Rattle.q128.proofs.Ring.{ring, is_dif, pos-dif, dif-same, *ℤ-swap, *ℤ_cancel, *ℤ-mono, *ℤ-mono_back}

-- ---- being the same rational
pub same_refl : (x : Fraction) → IsSame x x
same_refl x = refl

pub same_sym : (x y : Fraction) → IsSame x y → IsSame y x
same_sym x y e = sym e

crossed : (a b c : ℤ) (d e f : ℤ) → a *ℤ e ≡ b *ℤ d → b *ℤ f ≡ c *ℤ e → (a *ℤ f) *ℤ e ≡ (c *ℤ d) *ℤ e
crossed a b c d e f p q = *ℤ-swap a f e ∙ ap (λ z. z *ℤ f) p ∙ *ℤ-swap b d f ∙ ap (λ z. z *ℤ d) q ∙ *ℤ-swap c e d

pub same_trans : (x y z : Fraction) → IsSame x y → IsSame y z → IsSame x z
same_trans x y z p q = *ℤ_cancel (x.num *ℤ den_of z) (z.num *ℤ den_of x) y.den_less_one (crossed x.num y.num z.num (den_of x) (den_of y) (den_of z) p q)

-- ---- sums and products of the same rationals
plus_left : (xn xd x'n x'd yn yd : ℤ) → xn *ℤ x'd ≡ x'n *ℤ xd → (xn *ℤ yd +ℤ yn *ℤ xd) *ℤ (x'd *ℤ yd) ≡ (x'n *ℤ yd +ℤ yn *ℤ x'd) *ℤ (xd *ℤ yd)
plus_left xn xd x'n x'd yn yd e = open_up xn xd x'd yn yd ∙ ap (λ z. z *ℤ (yd *ℤ yd) +ℤ (yn *ℤ yd) *ℤ (xd *ℤ x'd)) e ∙ close x'n xd x'd yn yd
  where
    open_up : (xn xd x'd yn yd : ℤ) → (xn *ℤ yd +ℤ yn *ℤ xd) *ℤ (x'd *ℤ yd) ≡ (xn *ℤ x'd) *ℤ (yd *ℤ yd) +ℤ (yn *ℤ yd) *ℤ (xd *ℤ x'd)
    open_up xn xd x'd yn yd = rw (← is_dif xn, ← is_dif xd, ← is_dif x'd, ← is_dif yn, ← is_dif yd) (simp ring (dif-same _ _ _ _ (omega arith)))

    close : (x'n xd x'd yn yd : ℤ) → (x'n *ℤ xd) *ℤ (yd *ℤ yd) +ℤ (yn *ℤ yd) *ℤ (xd *ℤ x'd) ≡ (x'n *ℤ yd +ℤ yn *ℤ x'd) *ℤ (xd *ℤ yd)
    close x'n xd x'd yn yd = rw (← is_dif x'n, ← is_dif xd, ← is_dif x'd, ← is_dif yn, ← is_dif yd) (simp ring (dif-same _ _ _ _ (omega arith)))

suc_common : (m n : ℕ) → suc (m * suc n + n) ≡ suc m * suc n
suc_common m n = omega arith

-- the denominator of a sum or product
pub common_den : (x y : Fraction) → pos (suc (x.den_less_one * suc y.den_less_one + y.den_less_one)) ≡ den_of x *ℤ den_of y
common_den x y = ap pos (suc_common x.den_less_one y.den_less_one)

pub plus-same_left : (x x' y : Fraction) → IsSame x x' → IsSame (plus x y) (plus x' y)
plus-same_left x x' y e = rw (common_den x y, common_den x' y) (plus_left x.num (den_of x) x'.num (den_of x') y.num (den_of y) e)

pub plus_comm : (x y : Fraction) → IsSame (plus x y) (plus y x)
plus_comm x y = rw (common_den x y, common_den y x) (is x.num (den_of x) y.num (den_of y))
  where
    is : (a b c d : ℤ) → (a *ℤ d +ℤ c *ℤ b) *ℤ (d *ℤ b) ≡ (c *ℤ b +ℤ a *ℤ d) *ℤ (b *ℤ d)
    is a b c d = rw (← is_dif a, ← is_dif b, ← is_dif c, ← is_dif d) (simp ring (dif-same _ _ _ _ (omega arith)))

pub plus-same : (x x' y y' : Fraction) → IsSame x x' → IsSame y y' → IsSame (plus x y) (plus x' y')
plus-same x x' y y' p q =
    same_trans (plus x y) (plus x' y) (plus x' y') (plus-same_left x x' y p)
    (same_trans (plus x' y) (plus y x') (plus x' y') (plus_comm x' y)
    (same_trans (plus y x') (plus y' x') (plus x' y') (plus-same_left y y' x' q) (plus_comm y' x')))

pub times-same : (x x' y y' : Fraction) → IsSame x x' → IsSame y y' → IsSame (times x y) (times x' y')
times-same x x' y y' p q = rw (common_den x y, common_den x' y') (is x.num (den_of x) x'.num (den_of x') y.num (den_of y) y'.num (den_of y') p q)
  where
    regroup : (a b c d : ℤ) → (a *ℤ b) *ℤ (c *ℤ d) ≡ (a *ℤ c) *ℤ (b *ℤ d)
    regroup a b c d = rw (← is_dif a, ← is_dif b, ← is_dif c, ← is_dif d) (simp ring (dif-same _ _ _ _ (omega arith)))

    is : (xn xd x'n x'd yn yd y'n y'd : ℤ) → xn *ℤ x'd ≡ x'n *ℤ xd → yn *ℤ y'd ≡ y'n *ℤ yd → (xn *ℤ yn) *ℤ (x'd *ℤ y'd) ≡ (x'n *ℤ y'n) *ℤ (xd *ℤ yd)
    is xn xd x'n x'd yn yd y'n y'd e f = regroup xn yn x'd y'd ∙ ap (λ z. z *ℤ (yn *ℤ y'd)) e ∙ ap (λ z. (x'n *ℤ xd) *ℤ z) f ∙ sym (regroup x'n y'n xd yd)

-- ---- the order
pub nonneg-same : (x y : Fraction) → IsSame x y → pos 0 ≤ℤ x.num → pos 0 ≤ℤ y.num
nonneg-same x y e h =
    let up : (pos 0 *ℤ den_of y) ≤ℤ (x.num *ℤ den_of y) = *ℤ-mono (pos 0) x.num (suc y.den_less_one) h in
    let over : (pos 0 *ℤ den_of x) ≤ℤ (y.num *ℤ den_of x) = subst (λ z. (pos 0 *ℤ den_of x) ≤ℤ z) e (zeros up) in
    *ℤ-mono_back (pos 0) y.num x.den_less_one over
  where
    zeros : (pos 0 *ℤ den_of y) ≤ℤ (x.num *ℤ den_of y) → (pos 0 *ℤ den_of x) ≤ℤ (x.num *ℤ den_of y)
    zeros p = let a : 0 * suc y.den_less_one ≡ 0 = omega arith in let b : 0 * suc x.den_less_one ≡ 0 = omega arith in omega (arith, ints)

nonneg_product : (a b : ℤ) → pos 0 ≤ℤ a → pos 0 ≤ℤ b → pos 0 ≤ℤ (a *ℤ b)
nonneg_product (pos m) (pos n) h k = omega (arith, ints)
nonneg_product (pos m) (negsuc n) h k = absurd (omega (arith, ints))
nonneg_product (negsuc m) b h k = absurd (omega (arith, ints))

pub nonneg-times : (x y : Fraction) → pos 0 ≤ℤ x.num → pos 0 ≤ℤ y.num → pos 0 ≤ℤ (times x y).num
nonneg-times x y h k = nonneg_product x.num y.num h k

pub nonneg-plus : (x y : Fraction) → pos 0 ≤ℤ x.num → pos 0 ≤ℤ y.num → pos 0 ≤ℤ (plus x y).num
nonneg-plus x y h k =
    let a = nonneg_product x.num (den_of y) h (omega (arith, ints)) in
    let b = nonneg_product y.num (den_of x) k (omega (arith, ints)) in
    omega (arith, ints)

raised_ring : (dn xn yn tn : ℤ) (dd xd yd td : ℕ) →
    ((dn *ℤ (pos xd *ℤ pos td) +ℤ (xn *ℤ tn) *ℤ pos dd) *ℤ ((pos yd *ℤ pos xd) *ℤ pos td) +ℤ ((yn *ℤ pos xd -ℤ xn *ℤ pos yd) *ℤ tn) *ℤ (pos dd *ℤ (pos xd *ℤ pos td))) *ℤ (pos dd *ℤ (pos yd *ℤ pos td))
    ≡ (dn *ℤ (pos yd *ℤ pos td) +ℤ (yn *ℤ tn) *ℤ pos dd) *ℤ ((pos dd *ℤ (pos xd *ℤ pos td)) *ℤ ((pos yd *ℤ pos xd) *ℤ pos td))
raised_ring dn xn yn tn dd xd yd td = rw (← is_dif dn, ← is_dif xn, ← is_dif yn, ← is_dif tn) (simp (ring, pos-dif) (dif-same _ _ _ _ (omega arith)))

raised : (d x y t : Fraction) → IsSame (plus (plus d (times x t)) (times (minus y x) t)) (plus d (times y t))
raised d x y t = rw (suc_common (plus d (times x t)).den_less_one (times (minus y x) t).den_less_one, suc_common d.den_less_one (times x t).den_less_one, suc_common (minus y x).den_less_one t.den_less_one, suc_common x.den_less_one t.den_less_one, suc_common y.den_less_one x.den_less_one, suc_common d.den_less_one (times y t).den_less_one, suc_common y.den_less_one t.den_less_one)
    (raised_ring d.num x.num y.num t.num (suc d.den_less_one) (suc x.den_less_one) (suc y.den_less_one) (suc t.den_less_one))

-- a sum that isn't negative stays so where the factor of a number that isn't negative grows
pub nonneg-raised : (d x y t : Fraction) → IsAtMost x y → pos 0 ≤ℤ t.num → pos 0 ≤ℤ (plus d (times x t)).num → pos 0 ≤ℤ (plus d (times y t)).num
nonneg-raised d x y t h k p =
    let more : pos 0 ≤ℤ (minus y x).num = omega (arith, ints) in
    nonneg-same (plus (plus d (times x t)) (times (minus y x) t)) (plus d (times y t)) (raised d x y t)
    (nonneg-plus (plus d (times x t)) (times (minus y x) t) p (nonneg-times (minus y x) t more k))

-- ---- distributivity, and other shapes of a sum
pub times_plus : (q x y : Fraction) → IsSame (times q (plus x y)) (plus (times q x) (times q y))
times_plus q x y = rw (suc_common q.den_less_one (plus x y).den_less_one, suc_common x.den_less_one y.den_less_one, suc_common (times q x).den_less_one (times q y).den_less_one, suc_common q.den_less_one x.den_less_one, suc_common q.den_less_one y.den_less_one)
    (is q.num x.num y.num (suc q.den_less_one) (suc x.den_less_one) (suc y.den_less_one))
  where
    is : (qn xn yn : ℤ) (qd xd yd : ℕ) → (qn *ℤ (xn *ℤ pos yd +ℤ yn *ℤ pos xd)) *ℤ ((pos qd *ℤ pos xd) *ℤ (pos qd *ℤ pos yd)) ≡ ((qn *ℤ xn) *ℤ (pos qd *ℤ pos yd) +ℤ (qn *ℤ yn) *ℤ (pos qd *ℤ pos xd)) *ℤ (pos qd *ℤ (pos xd *ℤ pos yd))
    is qn xn yn qd xd yd = rw (← is_dif qn, ← is_dif xn, ← is_dif yn) (simp (ring, pos-dif) (dif-same _ _ _ _ (omega arith)))

pub plus_times : (x y q : Fraction) → IsSame (times (plus x y) q) (plus (times x q) (times y q))
plus_times x y q = rw (suc_common (plus x y).den_less_one q.den_less_one, suc_common x.den_less_one y.den_less_one, suc_common (times x q).den_less_one (times y q).den_less_one, suc_common x.den_less_one q.den_less_one, suc_common y.den_less_one q.den_less_one)
    (is q.num x.num y.num (suc q.den_less_one) (suc x.den_less_one) (suc y.den_less_one))
  where
    is : (qn xn yn : ℤ) (qd xd yd : ℕ) → ((xn *ℤ pos yd +ℤ yn *ℤ pos xd) *ℤ qn) *ℤ ((pos xd *ℤ pos qd) *ℤ (pos yd *ℤ pos qd)) ≡ ((xn *ℤ qn) *ℤ (pos yd *ℤ pos qd) +ℤ (yn *ℤ qn) *ℤ (pos xd *ℤ pos qd)) *ℤ ((pos xd *ℤ pos yd) *ℤ pos qd)
    is qn xn yn qd xd yd = rw (← is_dif qn, ← is_dif xn, ← is_dif yn) (simp (ring, pos-dif) (dif-same _ _ _ _ (omega arith)))

pub times_assoc : (x y z : Fraction) → IsSame (times (times x y) z) (times x (times y z))
times_assoc x y z = rw (suc_common (times x y).den_less_one z.den_less_one, suc_common x.den_less_one y.den_less_one, suc_common x.den_less_one (times y z).den_less_one, suc_common y.den_less_one z.den_less_one)
    (is x.num y.num z.num (suc x.den_less_one) (suc y.den_less_one) (suc z.den_less_one))
  where
    is : (xn yn zn : ℤ) (xd yd zd : ℕ) → ((xn *ℤ yn) *ℤ zn) *ℤ (pos xd *ℤ (pos yd *ℤ pos zd)) ≡ (xn *ℤ (yn *ℤ zn)) *ℤ ((pos xd *ℤ pos yd) *ℤ pos zd)
    is xn yn zn xd yd zd = rw (← is_dif xn, ← is_dif yn, ← is_dif zn) (simp (ring, pos-dif) (dif-same _ _ _ _ (omega arith)))

-- (a + b) + (c + d) and (a + c) + (b + d)
pub plus_swap : (a b c d : Fraction) → IsSame (plus (plus a b) (plus c d)) (plus (plus a c) (plus b d))
plus_swap a b c d = rw (suc_common (plus a b).den_less_one (plus c d).den_less_one, suc_common a.den_less_one b.den_less_one, suc_common c.den_less_one d.den_less_one, suc_common (plus a c).den_less_one (plus b d).den_less_one, suc_common a.den_less_one c.den_less_one, suc_common b.den_less_one d.den_less_one)
    (is a.num b.num c.num d.num (suc a.den_less_one) (suc b.den_less_one) (suc c.den_less_one) (suc d.den_less_one))
  where
    is : (an bn cn dn : ℤ) (ad bd cd dd : ℕ) → ((an *ℤ pos bd +ℤ bn *ℤ pos ad) *ℤ (pos cd *ℤ pos dd) +ℤ (cn *ℤ pos dd +ℤ dn *ℤ pos cd) *ℤ (pos ad *ℤ pos bd)) *ℤ ((pos ad *ℤ pos cd) *ℤ (pos bd *ℤ pos dd)) ≡ ((an *ℤ pos cd +ℤ cn *ℤ pos ad) *ℤ (pos bd *ℤ pos dd) +ℤ (bn *ℤ pos dd +ℤ dn *ℤ pos bd) *ℤ (pos ad *ℤ pos cd)) *ℤ ((pos ad *ℤ pos bd) *ℤ (pos cd *ℤ pos dd))
    is an bn cn dn ad bd cd dd = rw (← is_dif an, ← is_dif bn, ← is_dif cn, ← is_dif dn) (simp (ring, pos-dif) (dif-same _ _ _ _ (omega arith)))

pub zero-times : (x : Fraction) → IsSame (times (whole (pos 0)) x) (whole (pos 0))
zero-times x = is x.num (suc (0 * suc x.den_less_one + x.den_less_one))
  where
    is : (n : ℤ) (d : ℕ) → (pos 0 *ℤ n) *ℤ pos 1 ≡ pos 0 *ℤ pos d
    is n d = rw (← is_dif n) (simp (ring, pos-dif) (dif-same _ _ _ _ (omega arith)))

pub times-zero : (x : Fraction) → IsSame (times x (whole (pos 0))) (whole (pos 0))
times-zero x = is x.num (suc (x.den_less_one * 1 + 0))
  where
    is : (n : ℤ) (d : ℕ) → (n *ℤ pos 0) *ℤ pos 1 ≡ pos 0 *ℤ pos d
    is n d = rw (← is_dif n) (simp (ring, pos-dif) (dif-same _ _ _ _ (omega arith)))

pub plus-zero : (x : Fraction) → IsSame (plus x (whole (pos 0))) x
plus-zero x = rw (suc_common x.den_less_one (whole (pos 0)).den_less_one) (is x.num (suc x.den_less_one))
  where
    is : (n : ℤ) (d : ℕ) → (n *ℤ pos 1 +ℤ pos 0 *ℤ pos d) *ℤ pos d ≡ n *ℤ (pos d *ℤ pos 1)
    is n d = rw (← is_dif n) (simp (ring, pos-dif) (dif-same _ _ _ _ (omega arith)))

pub times_comm : (x y : Fraction) → IsSame (times x y) (times y x)
times_comm x y = rw (suc_common x.den_less_one y.den_less_one, suc_common y.den_less_one x.den_less_one) (is x.num y.num (suc x.den_less_one) (suc y.den_less_one))
  where
    is : (xn yn : ℤ) (xd yd : ℕ) → (xn *ℤ yn) *ℤ (pos yd *ℤ pos xd) ≡ (yn *ℤ xn) *ℤ (pos xd *ℤ pos yd)
    is xn yn xd yd = rw (← is_dif xn, ← is_dif yn) (simp (ring, pos-dif) (dif-same _ _ _ _ (omega arith)))

pub plus_assoc : (x y z : Fraction) → IsSame (plus (plus x y) z) (plus x (plus y z))
plus_assoc x y z = rw (suc_common (plus x y).den_less_one z.den_less_one, suc_common x.den_less_one y.den_less_one, suc_common x.den_less_one (plus y z).den_less_one, suc_common y.den_less_one z.den_less_one)
    (is x.num y.num z.num (suc x.den_less_one) (suc y.den_less_one) (suc z.den_less_one))
  where
    is : (xn yn zn : ℤ) (xd yd zd : ℕ) → ((xn *ℤ pos yd +ℤ yn *ℤ pos xd) *ℤ pos zd +ℤ zn *ℤ (pos xd *ℤ pos yd)) *ℤ (pos xd *ℤ (pos yd *ℤ pos zd)) ≡ (xn *ℤ (pos yd *ℤ pos zd) +ℤ (yn *ℤ pos zd +ℤ zn *ℤ pos yd) *ℤ pos xd) *ℤ ((pos xd *ℤ pos yd) *ℤ pos zd)
    is xn yn zn xd yd zd = rw (← is_dif xn, ← is_dif yn, ← is_dif zn) (simp (ring, pos-dif) (dif-same _ _ _ _ (omega arith)))

pub zero-plus : (x : Fraction) → IsSame (plus (whole (pos 0)) x) x
zero-plus x = same_trans (plus (whole (pos 0)) x) (plus x (whole (pos 0))) x (plus_comm (whole (pos 0)) x) (plus-zero x)
