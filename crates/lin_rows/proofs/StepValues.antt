-- Expressions after a step: their values are the values after it.
use Rattle.std.specs.Prelude.{◌≡◌, ℤ, pos, negsuc, neg_ℤ, ◌+ℤ◌, ◌-ℤ◌, ◌*ℤ◌, ◌≤ℤ◌, List, [], ◌∷◌}
use Rattle.std.proofs.Common.{arith, sym, ap, ◌∙◌, subst, get_or}
use Rattle.std.proofs.lemmas.Int.{ints}
use Rattle.std.proofs.Math.IntN.{*ℤ_comm}
use Rattle.q128.specs.Fraction.{Fraction, whole, IsSame, IsAtMost, plus, negative, minus, times}
use Rattle.q128.proofs.Ring.{neg_ℤ-*ℤ}
use Rattle.q128.proofs.Field.{same_refl, same_sym, same_trans, plus-same, plus_assoc, nonneg-same}
use Rattle.q128.proofs.Ordered.{minus_is, negative-same, negative-times, one-times}
use Rattle.lin_rows.specs.Linear.{Linear, nothing}
use Rattle.lin_rows.specs.Points.{dot, value_at, whole_sum, whole_value}
use Rattle.lin_rows.specs.Transitions.{lin_plus, lin_times, lin_constant, lin_sum, after, drop_of, next_wholes, next_at}
use Rattle.lin_rows.specs.Laws.{StepOnWholes, StepAt, ProvedFalls, ProvedFallsAtWhole}
use Rattle.lin_rows.proofs.Dots.{dot-zero}
use Rattle.lin_rows.proofs.Sound.{proved_holds, proved_holds_at_whole}
use Rattle.lin_rows.proofs.Expressions.{whole_sum-zero, whole_value-plus, whole_value-times, whole_value-constant, value_at-plus, value_at-times, value_at-constant, value_at-nothing}

-- ---- whole numbers
whole_lin_sum : (cs : List ℤ) (es : List Linear) (zs : List ℤ) → whole_value (lin_sum cs es) zs ≡ whole_sum (λ i. get_or cs i (pos 0)) (next_wholes es zs)
whole_lin_sum [] es zs = whole_value-constant (pos 0) zs ∙ sym (whole_sum-zero (next_wholes es zs))
whole_lin_sum (c ∷ cs) [] zs = whole_value-constant (pos 0) zs
whole_lin_sum (c ∷ cs) (e ∷ es) zs =
    whole_value-plus (lin_times c e) (lin_sum cs es) zs ∙ ap (λ k. k +ℤ whole_value (lin_sum cs es) zs) (whole_value-times c e zs)
    ∙ ap (λ k. c *ℤ whole_value e zs +ℤ k) (whole_lin_sum cs es zs)

whole_after : (l : Linear) (next : List Linear) (zs : List ℤ) → whole_value (after l next) zs ≡ whole_value l (next_wholes next zs)
whole_after l next zs =
    whole_value-plus (lin_sum l.coefficients next) (lin_constant l.constant) zs ∙ ap (λ k. k +ℤ whole_value (lin_constant l.constant) zs) (whole_lin_sum l.coefficients next zs)
    ∙ ap (λ k. whole_sum (λ i. get_or l.coefficients i (pos 0)) (next_wholes next zs) +ℤ k) (whole_value-constant l.constant zs)

minus_one : (a : ℤ) → negsuc 0 *ℤ a ≡ neg_ℤ a
minus_one a = neg_ℤ-*ℤ (pos 1) a ∙ ap neg_ℤ (*ℤ_comm (pos 1) a ∙ one a)
  where
    one : (a : ℤ) → a *ℤ pos 1 ≡ a
    one a = omega (arith, ints)

whole_drop : (f : Linear) (next : List Linear) (d : ℤ) (zs : List ℤ) → whole_value (drop_of f next d) zs ≡ (whole_value f zs -ℤ whole_value f (next_wholes next zs)) -ℤ d
whole_drop f next d zs =
    let tail = lin_plus (lin_times (negsuc 0) (after f next)) (lin_constant (neg_ℤ d)) in
    is _ _ _ _ (whole_value f zs) (whole_value f (next_wholes next zs)) (whole_value-plus f tail zs) (whole_value-plus (lin_times (negsuc 0) (after f next)) (lin_constant (neg_ℤ d)) zs)
    (whole_value-times (negsuc 0) (after f next) zs ∙ minus_one (whole_value (after f next) zs) ∙ ap neg_ℤ (whole_after f next zs)) (whole_value-constant (neg_ℤ d) zs)
  where
    is : (all tail a k F N : ℤ) → all ≡ F +ℤ tail → tail ≡ a +ℤ k → a ≡ neg_ℤ N → k ≡ neg_ℤ d → all ≡ (F -ℤ N) -ℤ d
    is all tail a k F N p q r s = omega (arith, ints)

pub step_on_wholes : (f : Linear) (next : List Linear) (d : ℤ) (zs : List ℤ) → StepOnWholes f next d zs
step_on_wholes f next d zs = record { moved = whole_after f next zs; fallen = whole_drop f next d zs }

pub proved_falls_at_whole : ProvedFallsAtWhole
proved_falls_at_whole step m f d before now p s =
    let N = whole_value f (next_wholes step.next before) in
    let held = (proved_holds_at_whole _ m (drop_of f step.next d) before p s.rows).not_negative in
    let low : pos 0 ≤ℤ ((whole_value f before -ℤ N) -ℤ d) = subst (λ k. pos 0 ≤ℤ k) (whole_drop f step.next d before) held in
    let fall : d ≤ℤ (whole_value f before -ℤ N) = omega (arith, ints) in
    subst (λ (ys : List ℤ). d ≤ℤ (whole_value f before -ℤ whole_value f ys)) (sym s.next) fall

-- ---- points and rays
lin_sum_at : (cs : List ℤ) (es : List Linear) (t : Fraction) (v : List Fraction) → IsSame (value_at (lin_sum cs es) t v) (dot (λ i. whole (get_or cs i (pos 0))) (next_at es t v))
lin_sum_at [] es t v =
    let D = dot (λ i. whole (pos 0)) (next_at es t v) in
    same_trans (value_at nothing t v) (whole (pos 0)) D (value_at-nothing t v) (same_sym D (whole (pos 0)) (dot-zero (next_at es t v)))
lin_sum_at (c ∷ cs) [] t v = value_at-nothing t v
lin_sum_at (c ∷ cs) (e ∷ es) t v =
    let first = value_at (lin_times c e) t v in
    let made = times (whole c) (value_at e t v) in
    let rest = value_at (lin_sum cs es) t v in
    let others = dot (λ i. whole (get_or cs i (pos 0))) (next_at es t v) in
    same_trans (value_at (lin_sum (c ∷ cs) (e ∷ es)) t v) (plus first rest) (plus made others) (value_at-plus (lin_times c e) (lin_sum cs es) t v)
    (plus-same first made rest others (value_at-times c e t v) (lin_sum_at cs es t v))

after_at : (l : Linear) (next : List Linear) (t : Fraction) (v : List Fraction) → IsSame (value_at (after l next) t v) (value_at l t (next_at next t v))
after_at l next t v =
    let sum = value_at (lin_sum l.coefficients next) t v in
    let constant = value_at (lin_constant l.constant) t v in
    let made = dot (λ i. whole (get_or l.coefficients i (pos 0))) (next_at next t v) in
    same_trans (value_at (after l next) t v) (plus sum constant) (plus made (times (whole l.constant) t)) (value_at-plus (lin_sum l.coefficients next) (lin_constant l.constant) t v)
    (plus-same sum made constant (times (whole l.constant) t) (lin_sum_at l.coefficients next t v) (value_at-constant l.constant t v))

-- what is taken away
taken_at : (f : Linear) (next : List Linear) (t : Fraction) (v : List Fraction) → IsSame (value_at (lin_times (negsuc 0) (after f next)) t v) (negative (value_at f t (next_at next t v)))
taken_at f next t v =
    let A = value_at (after f next) t v in
    let N = value_at f t (next_at next t v) in
    let one = times (whole (pos 1)) A in
    same_trans (value_at (lin_times (negsuc 0) (after f next)) t v) (times (whole (negsuc 0)) A) (negative N) (value_at-times (negsuc 0) (after f next) t v)
    (same_trans (times (whole (negsuc 0)) A) (negative one) (negative N) (negative-times (pos 1) A) (negative-same one N (same_trans one A N (one-times A) (after_at f next t v))))

minus_same : (x y : Fraction) → IsSame (plus x (negative y)) (minus x y)
minus_same x y = subst (λ (z : Fraction). IsSame z (minus x y)) (minus_is x y) (same_refl (minus x y))

drop_at : (f : Linear) (next : List Linear) (d : ℤ) (t : Fraction) (v : List Fraction) → IsSame (value_at (drop_of f next d) t v) (minus (minus (value_at f t v) (value_at f t (next_at next t v))) (times (whole d) t))
drop_at f next d t v =
    let F = value_at f t v in
    let N = value_at f t (next_at next t v) in
    let D = times (whole d) t in
    let taken = lin_times (negsuc 0) (after f next) in
    let last = lin_constant (neg_ℤ d) in
    let a = value_at taken t v in
    let k = value_at last t v in
    let tail = value_at (lin_plus taken last) t v in
    let constant : IsSame k (negative D) = same_trans k (times (whole (neg_ℤ d)) t) (negative D) (value_at-constant (neg_ℤ d) t v) (negative-times d t) in
    let tail_is : IsSame tail (plus (negative N) (negative D)) = same_trans tail (plus a k) (plus (negative N) (negative D)) (value_at-plus taken last t v) (plus-same a (negative N) k (negative D) (taken_at f next t v) constant) in
    let all : IsSame (value_at (drop_of f next d) t v) (plus F (plus (negative N) (negative D))) =
    same_trans (value_at (drop_of f next d) t v) (plus F tail) (plus F (plus (negative N) (negative D))) (value_at-plus f (lin_plus taken last) t v) (plus-same F F tail (plus (negative N) (negative D)) (same_refl F) tail_is) in
    let regrouped : IsSame (plus F (plus (negative N) (negative D))) (plus (plus F (negative N)) (negative D)) = same_sym (plus (plus F (negative N)) (negative D)) (plus F (plus (negative N) (negative D))) (plus_assoc F (negative N) (negative D)) in
    let first : IsSame (plus (plus F (negative N)) (negative D)) (plus (minus F N) (negative D)) = plus-same (plus F (negative N)) (minus F N) (negative D) (negative D) (minus_same F N) (same_refl (negative D)) in
    same_trans (value_at (drop_of f next d) t v) (plus F (plus (negative N) (negative D))) (minus (minus F N) D) all
    (same_trans (plus F (plus (negative N) (negative D))) (plus (plus F (negative N)) (negative D)) (minus (minus F N) D) regrouped
    (same_trans (plus (plus F (negative N)) (negative D)) (plus (minus F N) (negative D)) (minus (minus F N) D) first (minus_same (minus F N) D)))

pub step_at : (f : Linear) (next : List Linear) (d : ℤ) (t : Fraction) (v : List Fraction) → StepAt f next d t v
step_at f next d t v = record { moved = after_at f next t v; fallen = drop_at f next d t v }

-- what isn't below 0 when y is taken away is at least y
at_most_minus : (x y : Fraction) → pos 0 ≤ℤ (minus x y).num → IsAtMost y x
at_most_minus x y h = omega (arith, ints)

pub proved_falls : ProvedFalls
proved_falls step m f d t before now p h s =
    let all = drop_of f step.next d in
    let D = times (whole d) t in
    let fall = minus (value_at f t before) (value_at f t (next_at step.next t before)) in
    let held = (proved_holds _ m all t before p h s.rows).not_negative in
    let low : pos 0 ≤ℤ (minus fall D).num = nonneg-same (value_at all t before) (minus fall D) (drop_at f step.next d t before) held in
    subst (λ (v : List Fraction). IsAtMost D (minus (value_at f t before) (value_at f t v))) (sym s.next) (at_most_minus fall D low)
