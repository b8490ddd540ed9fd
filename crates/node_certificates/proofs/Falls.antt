-- What a function falls by with steps from points.
use Rattle.std.specs.Prelude.{◌≡◌, ℤ, pos, neg_ℤ, ◌*ℤ◌, ◌≤ℤ◌, List}
use Rattle.std.proofs.Common.{arith, refl, sym, ap, ◌∙◌, subst}
use Rattle.std.proofs.lemmas.Int.{ints}
use Rattle.std.proofs.Math.IntN.{*ℤ_comm}
use Rattle.q128.specs.Fraction.{Fraction, whole, den_of, IsSame, IsAtMost, plus, negative, minus, times}
use Rattle.q128.proofs.Ring.{neg_ℤ-*ℤ}
use Rattle.q128.proofs.Field.{same_refl, same_sym, same_trans, plus-same, times-same, times_plus, times_assoc, plus-zero, zero-times, nonneg-same, nonneg-times, nonneg-raised}
use Rattle.q128.proofs.Ordered.{minus_is, negative-same}
use Rattle.lin_rows.specs.Linear.{Linear}
use Rattle.lin_rows.specs.Points.{value_at}
use Rattle.lin_rows.specs.Transitions.{lin_times, drop_of, next_at}
use Rattle.lin_rows.proofs.Expressions.{value_at-times}
use Rattle.lin_rows.proofs.StepValues.{step_at}

turned : (a b p q : ℤ) → (a *ℤ q) ≤ℤ (neg_ℤ b *ℤ p) → (b *ℤ p) ≤ℤ (neg_ℤ a *ℤ q)
turned a b p q h = at (a *ℤ q) (b *ℤ p) (neg_ℤ b *ℤ p) (neg_ℤ a *ℤ q) (neg_ℤ-*ℤ b p) (neg_ℤ-*ℤ a q) h
  where
    at : (x y u w : ℤ) → u ≡ neg_ℤ y → w ≡ neg_ℤ x → x ≤ℤ u → y ≤ℤ w
    at x y u w e f h = omega (arith, ints, e, f, h)

turn : (d x : Fraction) → IsAtMost d (negative x) → IsAtMost x (negative d)
turn d x h = turned d.num x.num (den_of d) (den_of x) h

times_negative : (q y : Fraction) → IsSame (times q (negative y)) (negative (times q y))
times_negative q y = ap (λ (z : ℤ). z *ℤ den_of (times q y)) (*ℤ_comm q.num (neg_ℤ y.num) ∙ neg_ℤ-*ℤ y.num q.num ∙ ap neg_ℤ (*ℤ_comm y.num q.num))

negative_times : (q y : Fraction) → IsSame (times (negative q) y) (negative (times q y))
negative_times q y = ap (λ (z : ℤ). z *ℤ den_of (times q y)) (neg_ℤ-*ℤ q.num y.num)

at_most_minus : (x y : Fraction) → pos 0 ≤ℤ (minus x y).num → IsAtMost y x
at_most_minus x y h = omega (arith, ints)

-- nothing is taken away
kept_whole : (e t : Fraction) → IsSame (minus e (times (whole (pos 0)) t)) e
kept_whole e t =
    let Z = times (whole (pos 0)) t in
    let zero : IsSame (negative Z) (whole (pos 0)) = same_trans (negative Z) (negative (whole (pos 0))) (whole (pos 0)) (negative-same Z (whole (pos 0)) (zero-times t)) refl in
    subst (λ (m : Fraction). IsSame m e) (sym (minus_is e Z)) (same_trans (plus e (negative Z)) (plus e (whole (pos 0))) e (plus-same e e (negative Z) (whole (pos 0)) (same_refl e) zero) (plus-zero e))

minus_scaled : (q x y a b : Fraction) → IsSame a (times q x) → IsSame b (times q y) → IsSame (times q (minus x y)) (minus a b)
minus_scaled q x y a b e g =
    let part : IsSame (times q (negative y)) (negative b) = same_trans (times q (negative y)) (negative (times q y)) (negative b) (times_negative q y) (negative-same (times q y) b (same_sym b (times q y) g)) in
    let all : IsSame (times q (plus x (negative y))) (plus a (negative b)) =
    same_trans (times q (plus x (negative y))) (plus (times q x) (times q (negative y))) (plus a (negative b)) (times_plus q x (negative y))
    (plus-same (times q x) a (times q (negative y)) (negative b) (same_sym a (times q x) e) part) in
    subst (λ (m : Fraction). IsSame (times q m) (minus a b)) (sym (minus_is x y)) (subst (λ (m : Fraction). IsSame (times q (plus x (negative y))) m) (sym (minus_is a b)) all)

constant_scaled : (q d w t : Fraction) → IsSame (times q d) w → IsSame (times q (times (negative d) t)) (negative (times w t))
constant_scaled q d w t made =
    let C = times (negative d) t in
    let T = times d t in
    let W = times w t in
    let inner : IsSame (times q C) (times q (negative T)) = times-same q q C (negative T) (same_refl q) (negative_times d t) in
    let product : IsSame (times q T) W = same_trans (times q T) (times (times q d) t) W (same_sym (times (times q d) t) (times q T) (times_assoc q d t)) (times-same (times q d) w t t made (same_refl t)) in
    same_trans (times q C) (times q (negative T)) (negative W) inner
    (same_trans (times q (negative T)) (negative (times q T)) (negative W) (times_negative q T) (negative-same (times q T) W product))

pub fall_at : (s : ℤ) (f : Linear) (next : List Linear) (t : Fraction) (v : List Fraction) (x d : Fraction) (z : ℤ)
    → pos 0 ≤ℤ s → pos 0 ≤ℤ t.num → IsAtMost d (negative x) → IsSame (times (whole s) d) (whole z) → pos 0 ≤ℤ (plus (value_at (drop_of f next (pos 0)) t v) (times x t)).num
    → IsAtMost (times (whole z) t) (minus (value_at (lin_times s f) t v) (value_at (lin_times s f) t (next_at next t v)))
fall_at s f next t v x d z positive later most made h =
    let q = whole s in
    let F = value_at f t v in
    let N = value_at f t (next_at next t v) in
    let E = minus F N in
    let V = value_at (drop_of f next (pos 0)) t v in
    let X = times x t in
    let C = times (negative d) t in
    let W = times (whole z) t in
    let M = minus (value_at (lin_times s f) t v) (value_at (lin_times s f) t (next_at next t v)) in
    let value : IsSame V E = same_trans V (minus E (times (whole (pos 0)) t)) E (step_at f next (pos 0) t v).fallen (kept_whole E t) in
    let low : pos 0 ≤ℤ (plus E X).num = nonneg-same (plus V X) (plus E X) (plus-same V E X X value (same_refl X)) h in
    let raised : pos 0 ≤ℤ (plus E C).num = nonneg-raised E x (negative d) t (turn d x most) later low in
    let scaled : pos 0 ≤ℤ (times q (plus E C)).num = nonneg-times q (plus E C) positive raised in
    let first : IsSame (times q E) M = minus_scaled q F N (value_at (lin_times s f) t v) (value_at (lin_times s f) t (next_at next t v)) (value_at-times s f t v) (value_at-times s f t (next_at next t v)) in
    let all : IsSame (times q (plus E C)) (plus M (negative W)) =
    same_trans (times q (plus E C)) (plus (times q E) (times q C)) (plus M (negative W)) (times_plus q E C)
    (plus-same (times q E) M (times q C) (negative W) first (constant_scaled q d (whole z) t made)) in
    let made_low : pos 0 ≤ℤ (plus M (negative W)).num = nonneg-same (times q (plus E C)) (plus M (negative W)) all scaled in
    at_most_minus M W (subst (λ (m : Fraction). pos 0 ≤ℤ m.num) (sym (minus_is M W)) made_low)
