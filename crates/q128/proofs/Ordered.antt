-- Fractions are an ordered field.
use Rattle.std.specs.Prelude.{◌≡◌, ◌⊎◌, ℕ, zero, suc, ◌*◌, ℤ, pos, negsuc, neg_ℤ, ◌+ℤ◌, ◌*ℤ◌, ◌≤ℤ◌}
use Rattle.std.proofs.Common.{arith, refl, sym, ap, ◌∙◌, subst, inl, inr}
use Rattle.std.proofs.lemmas.Int.{ints, by_lt_z}
use Rattle.q128.specs.Fraction.{Fraction, den_of, whole, IsSame, IsAtMost, plus, negative, minus, times, inverse, turned, IsQuotient}
use Rattle.q128.specs.Laws.{IsField, IsFieldOrder, AreOrderedField}
use Rattle.q128.proofs.Ring.{ring, is_dif, pos-dif, dif-same, *ℤ-swap, *ℤ-mono, *ℤ-mono_back, neg_ℤ-*ℤ}
use Rattle.q128.proofs.Field.{same_refl, same_sym, same_trans, plus-same, times-same, plus_comm, plus_assoc, plus-zero, times_comm, times_assoc, times_plus, common_den}

-- ---- the field
times-one : (x : Fraction) → IsSame (times x (whole (pos 1))) x
times-one x = rw (common_den x (whole (pos 1))) (is x.num (suc x.den_less_one))
  where
    is : (n : ℤ) (d : ℕ) → (n *ℤ pos 1) *ℤ pos d ≡ n *ℤ (pos d *ℤ pos 1)
    is n d = rw (← is_dif n) (simp (ring, pos-dif) (dif-same _ _ _ _ (omega arith)))

pub minus_is : (x y : Fraction) → minus x y ≡ plus x (negative y)
minus_is x y = ap (λ n. record { num = x.num *ℤ den_of y +ℤ n; den_less_one = (minus x y).den_less_one }) (sym (neg_ℤ-*ℤ y.num (den_of x)))

plus-negative : (x : Fraction) → IsSame (plus x (negative x)) (whole (pos 0))
plus-negative x = is x.num (den_of x) (suc (plus x (negative x)).den_less_one)
  where
    is : (n d : ℤ) (k : ℕ) → (n *ℤ d +ℤ neg_ℤ n *ℤ d) *ℤ pos 1 ≡ pos 0 *ℤ pos k
    is n d k = rw (← is_dif n, ← is_dif d) (simp (ring, pos-dif) (dif-same _ _ _ _ (omega arith)))

-- a number other than 0 times its inverse is as much over as under
turned_is : (n : ℤ) (d : ℕ) → (n ≡ pos 0 → ⊥) → n *ℤ (turned n d).num ≡ pos (suc d) *ℤ den_of (turned n d)
turned_is (pos zero) d some = absurd (some refl)
turned_is (pos (suc n)) d some = ap pos (is (suc n) (suc d))
  where
    is : (a b : ℕ) → a * b ≡ b * a
    is a b = omega arith
turned_is (negsuc n) d some = ap pos (is (suc n) (suc d))
  where
    is : (a b : ℕ) → a * b ≡ b * a
    is a b = omega arith

not_zero : (x : Fraction) → (IsSame x (whole (pos 0)) → ⊥) → x.num ≡ pos 0 → ⊥
not_zero x some e = some (ap (λ n. n *ℤ pos 1) e ∙ none (suc x.den_less_one))
  where
    none : (d : ℕ) → pos 0 *ℤ pos 1 ≡ pos 0 *ℤ pos d
    none d = ap pos (is d)
      where
        is : (d : ℕ) → 0 * 1 ≡ 0 * d
        is d = omega arith

times-inverse : (x : Fraction) → (IsSame x (whole (pos 0)) → ⊥) → IsSame (times x (inverse x)) (whole (pos 1))
times-inverse x some =
    is (x.num *ℤ (inverse x).num) (den_of x *ℤ den_of (inverse x)) (den_of (times x (inverse x))) (turned_is x.num x.den_less_one (not_zero x some)) (common_den x (inverse x))
  where
    is : (a b c : ℤ) → a ≡ b → c ≡ b → a *ℤ pos 1 ≡ pos 1 *ℤ c
    is a b c e f = omega (arith, ints)

apart : IsSame (whole (pos 0)) (whole (pos 1)) → ⊥
apart e = absurd (cc)

are_field : IsField IsSame plus times (whole (pos 0)) (whole (pos 1)) negative inverse
are_field = record {
  equivalence = record { reflexive = same_refl; symmetric = same_sym; transitive = same_trans };
  sums = record { respects = plus-same; associates = plus_assoc; commutes = plus_comm; leaves = plus-zero };
  products = record { respects = times-same; associates = times_assoc; commutes = times_comm; leaves = times-one };
  distributes = times_plus;
  negatives = plus-negative;
  inverses = times-inverse;
  apart = apart;
}

-- ---- the order
at_most_refl : (x y : Fraction) → IsSame x y → IsAtMost x y
at_most_refl x y e = omega (arith, ints)

at_most_antisym : (x y : Fraction) → IsAtMost x y → IsAtMost y x → IsSame x y
at_most_antisym x y h k = omega (arith, ints)

pub at_most_trans : (x y z : Fraction) → IsAtMost x y → IsAtMost y z → IsAtMost x z
at_most_trans x y z h k =
    let up : ((x.num *ℤ den_of y) *ℤ den_of z) ≤ℤ ((y.num *ℤ den_of x) *ℤ den_of z) = *ℤ-mono (x.num *ℤ den_of y) (y.num *ℤ den_of x) (suc z.den_less_one) h in
    let on : ((y.num *ℤ den_of z) *ℤ den_of x) ≤ℤ ((z.num *ℤ den_of y) *ℤ den_of x) = *ℤ-mono (y.num *ℤ den_of z) (z.num *ℤ den_of y) (suc x.den_less_one) k in
    let left = *ℤ-swap x.num (den_of y) (den_of z) in
    let between = *ℤ-swap y.num (den_of x) (den_of z) in
    let right = *ℤ-swap z.num (den_of y) (den_of x) in
    let all : ((x.num *ℤ den_of z) *ℤ den_of y) ≤ℤ ((z.num *ℤ den_of x) *ℤ den_of y) = joined _ _ _ _ _ _ up on left between right in
    *ℤ-mono_back (x.num *ℤ den_of z) (z.num *ℤ den_of x) y.den_less_one all
  where
    joined : (a b c d e f : ℤ) → a ≤ℤ b → c ≤ℤ d → a ≡ e → b ≡ c → d ≡ f → e ≤ℤ f
    joined a b c d e f h k p q r = omega (arith, ints)

at_most_total : (x y : Fraction) → IsAtMost x y ⊎ IsAtMost y x
at_most_total x y = total (x.num *ℤ den_of y) (y.num *ℤ den_of x)
  where
    total : (a b : ℤ) → (a ≤ℤ b) ⊎ (b ≤ℤ a)
    total a b = by_lt_z b a (λ lt. inr (omega (arith, ints))) (λ le. inl le)

plus_at_most : (x y z : Fraction) → IsAtMost x y → IsAtMost (plus x z) (plus y z)
plus_at_most x y z h = rw (common_den x z, common_den y z) (is x.num y.num z.num (suc x.den_less_one) (suc y.den_less_one) (suc z.den_less_one) h)
  where
    opened : (xn zn : ℤ) (xd yd zd : ℕ) → (xn *ℤ pos zd +ℤ zn *ℤ pos xd) *ℤ (pos yd *ℤ pos zd) ≡ (xn *ℤ pos yd) *ℤ pos (zd * zd) +ℤ (zn *ℤ pos zd) *ℤ pos (xd * yd)
    opened xn zn xd yd zd = rw (← is_dif xn, ← is_dif zn) (simp (ring, pos-dif) (dif-same _ _ _ _ (omega arith)))

    swapped : (xd yd : ℕ) → yd * xd ≡ xd * yd
    swapped xd yd = omega arith

    joined : (a b c d e : ℤ) → a ≡ c +ℤ e → b ≡ d +ℤ e → c ≤ℤ d → a ≤ℤ b
    joined a b c d e p q h = omega (arith, ints)

    is : (xn yn zn : ℤ) (xd yd zd : ℕ) → (xn *ℤ pos yd) ≤ℤ (yn *ℤ pos xd) → ((xn *ℤ pos zd +ℤ zn *ℤ pos xd) *ℤ (pos yd *ℤ pos zd)) ≤ℤ ((yn *ℤ pos zd +ℤ zn *ℤ pos yd) *ℤ (pos xd *ℤ pos zd))
    is xn yn zn xd yd zd h =
        joined _ _ ((xn *ℤ pos yd) *ℤ pos (zd * zd)) ((yn *ℤ pos xd) *ℤ pos (zd * zd)) ((zn *ℤ pos zd) *ℤ pos (xd * yd)) (opened xn zn xd yd zd) (opened yn zn yd xd zd ∙ ap (λ n. (yn *ℤ pos xd) *ℤ pos (zd * zd) +ℤ (zn *ℤ pos zd) *ℤ pos n) (swapped xd yd))
        (*ℤ-mono (xn *ℤ pos yd) (yn *ℤ pos xd) (zd * zd) h)

sign_there : (x : Fraction) → IsAtMost (whole (pos 0)) x → pos 0 ≤ℤ x.num
sign_there x h = is x.num (suc x.den_less_one) h
  where
    is : (n : ℤ) (d : ℕ) → (pos 0 *ℤ pos d) ≤ℤ (n *ℤ pos 1) → pos 0 ≤ℤ n
    is n d h = let e : 0 * d ≡ 0 = omega arith in omega (arith, ints)

sign_back : (x : Fraction) → pos 0 ≤ℤ x.num → IsAtMost (whole (pos 0)) x
sign_back x h = is x.num (suc x.den_less_one) h
  where
    is : (n : ℤ) (d : ℕ) → pos 0 ≤ℤ n → (pos 0 *ℤ pos d) ≤ℤ (n *ℤ pos 1)
    is n d h = let e : 0 * d ≡ 0 = omega arith in omega (arith, ints)

times_at_most : (x y z : Fraction) → IsAtMost (whole (pos 0)) z → IsAtMost x y → IsAtMost (times x z) (times y z)
times_at_most x y z low h = rw (common_den x z, common_den y z) (is x.num y.num z.num (suc x.den_less_one) (suc y.den_less_one) (suc z.den_less_one) (sign_there z low) h)
  where
    opened : (xn : ℤ) (zn yd zd : ℕ) → (xn *ℤ pos zn) *ℤ (pos yd *ℤ pos zd) ≡ (xn *ℤ pos yd) *ℤ pos (zn * zd)
    opened xn zn yd zd = rw (← is_dif xn) (simp (ring, pos-dif) (dif-same _ _ _ _ (omega arith)))

    is : (xn yn zn : ℤ) (xd yd zd : ℕ) → pos 0 ≤ℤ zn → (xn *ℤ pos yd) ≤ℤ (yn *ℤ pos xd) → ((xn *ℤ zn) *ℤ (pos yd *ℤ pos zd)) ≤ℤ ((yn *ℤ zn) *ℤ (pos xd *ℤ pos zd))
    is xn yn (pos zn) xd yd zd low h = rw (opened xn zn yd zd, opened yn zn xd zd) (*ℤ-mono (xn *ℤ pos yd) (yn *ℤ pos xd) (zn * zd) h)
    is xn yn (negsuc zn) xd yd zd low h = absurd (omega (arith, ints))

are_ordered : IsFieldOrder IsSame IsAtMost plus times (whole (pos 0))
are_ordered = record {
  reflexive = at_most_refl;
  antisymmetric = at_most_antisym;
  transitive = at_most_trans;
  total = at_most_total;
  sums = plus_at_most;
  products = times_at_most;
}

-- ---- quotients: z * y = x exactly where z = x * (1 / y)
quotient_there : (x y z : Fraction) → (IsSame y (whole (pos 0)) → ⊥) → IsQuotient z x y → IsSame z (times x (inverse y))
quotient_there x y z some e =
    let w = inverse y in
    let one = whole (pos 1) in
    let back : IsSame (times (times z y) w) (times x w) = times-same (times z y) x w w e refl in
    let rest : IsSame (times (times z y) w) z =
    same_trans (times (times z y) w) (times z (times y w)) z (times_assoc z y w)
    (same_trans (times z (times y w)) (times z one) z (times-same z z (times y w) one refl (times-inverse y some)) (times-one z)) in
    same_trans z (times (times z y) w) (times x w) (same_sym (times (times z y) w) z rest) back

quotient_back : (x y z : Fraction) → (IsSame y (whole (pos 0)) → ⊥) → IsSame z (times x (inverse y)) → IsQuotient z x y
quotient_back x y z some e =
    let w = inverse y in
    let one = whole (pos 1) in
    let first : IsSame (times z y) (times (times x w) y) = times-same z (times x w) y y e refl in
    let second : IsSame (times (times x w) y) (times x (times w y)) = times_assoc x w y in
    let unit : IsSame (times w y) one = same_trans (times w y) (times y w) one (times_comm w y) (times-inverse y some) in
    let third : IsSame (times x (times w y)) x = same_trans (times x (times w y)) (times x one) x (times-same x x (times w y) one refl unit) (times-one x) in
    same_trans (times z y) (times (times x w) y) x first (same_trans (times (times x w) y) (times x (times w y)) x second third)

pub are_ordered_field : AreOrderedField
are_ordered_field = record {
  field = are_field;
  order = are_ordered;
  differences = λ x y. subst (λ z. IsSame (minus x y) z) (minus_is x y) (same_refl (minus x y));
  quotients = λ x y z some. (quotient_there x y z some, quotient_back x y z some);
  signs = λ x. (sign_there x, sign_back x);
}

-- ---- negatives
pub negative-same : (x y : Fraction) → IsSame x y → IsSame (negative x) (negative y)
negative-same x y e = neg_ℤ-*ℤ x.num (den_of y) ∙ ap neg_ℤ e ∙ sym (neg_ℤ-*ℤ y.num (den_of x))

pub negative-times : (k : ℤ) (x : Fraction) → IsSame (times (whole (neg_ℤ k)) x) (negative (times (whole k) x))
negative-times k x = ap (λ n. n *ℤ den_of (times (whole k) x)) (neg_ℤ-*ℤ k x.num)

pub one-times : (x : Fraction) → IsSame (times (whole (pos 1)) x) x
one-times x = same_trans (times (whole (pos 1)) x) (times x (whole (pos 1))) x (times_comm (whole (pos 1)) x) (times-one x)
