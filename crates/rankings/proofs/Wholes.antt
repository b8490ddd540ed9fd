-- Whole numbers as a rational point.
use Rattle.std.specs.Prelude.{◌≡◌, ℕ, zero, suc, ℤ, pos, ◌+ℤ◌, ◌*ℤ◌, ◌≤ℤ◌, List, [], ◌∷◌, map}
use Rattle.std.proofs.Common.{arith, refl, sym, ap, ◌∙◌, subst, get_or}
use Rattle.std.proofs.lemmas.Int.{ints}
use Rattle.q128.specs.Fraction.{Fraction, whole, IsAtMost, plus, minus, times}
use Rattle.lin_rows.specs.declared.point.Point.{Point}
use Rattle.lin_rows.specs.declared.row.Transition.{Transition}
use Rattle.lin_rows.specs.Linear.{Linear, coefficient_of}
use Rattle.lin_rows.specs.Points.{dot, value_at, HoldsAt, RowsHoldAt, whole_sum, whole_value, HoldsAtWhole, RowsHoldAtWhole}
use Rattle.lin_rows.specs.Rows.{lins}
use Rattle.lin_rows.specs.Transitions.{lin_constant, next_wholes, next_at}
use Rattle.lin_rows.proofs.Expressions.{whole_value-plus, whole_value-constant}
use Rattle.rankings.specs.Entailment.{IsPointOf, IsLive}
use Rattle.rankings.specs.Rankings.{raised}
use Rattle.rankings.specs.Laws.{EntailedHolds, RankingFalls}

abbrev pub wholes : List ℤ → List Fraction
wholes zs = map whole zs

-- whole numbers with t = 1
abbrev pub point_of : List ℤ → Point
point_of zs = record { t = whole (pos 1); v = wholes zs }

dot_wholes : (f : ℕ → ℤ) (zs : List ℤ) → dot (λ i. whole (f i)) (wholes zs) ≡ whole (whole_sum f zs)
dot_wholes f [] = refl
dot_wholes f (z ∷ zs) = ap (plus (times (whole (f zero)) (whole z))) (dot_wholes (λ i. f (suc i)) zs) ∙ ap whole (is (f zero *ℤ z) (whole_sum (λ i. f (suc i)) zs))
  where
    is : (a b : ℤ) → a *ℤ pos 1 +ℤ b *ℤ pos 1 ≡ a +ℤ b
    is a b = omega (arith, ints)

pub value_of_wholes : (l : Linear) (zs : List ℤ) → value_at l (whole (pos 1)) (wholes zs) ≡ whole (whole_value l zs)
value_of_wholes l zs =
    ap (λ (x : Fraction). plus x (times (whole l.constant) (whole (pos 1)))) (dot_wholes (coefficient_of l) zs) ∙ ap whole (is (whole_sum (coefficient_of l) zs) l.constant)
  where
    is : (a k : ℤ) → a *ℤ pos 1 +ℤ (k *ℤ pos 1) *ℤ pos 1 ≡ a +ℤ k
    is a k = omega (arith, ints)

pub next_of_wholes : (next : List Linear) (zs : List ℤ) → next_at next (whole (pos 1)) (wholes zs) ≡ wholes (next_wholes next zs)
next_of_wholes [] zs = refl
next_of_wholes (e ∷ next) zs =
    ap (λ (x : Fraction). x ∷ next_at next (whole (pos 1)) (wholes zs)) (value_of_wholes e zs) ∙ ap (λ (v : List Fraction). whole (whole_value e zs) ∷ v) (next_of_wholes next zs)

pub to_point : (l : Linear) (zs : List ℤ) → HoldsAtWhole l zs → HoldsAt l (whole (pos 1)) (wholes zs)
to_point l zs h = record { not_negative = subst (λ (x : Fraction). pos 0 ≤ℤ x.num) (sym (value_of_wholes l zs)) h.not_negative }

pub from_point : (l : Linear) (zs : List ℤ) → HoldsAt l (whole (pos 1)) (wholes zs) → HoldsAtWhole l zs
from_point l zs h = record { not_negative = subst (λ (x : Fraction). pos 0 ≤ℤ x.num) (value_of_wholes l zs) h.not_negative }

pub rows_to_point : (rows : List Linear) (zs : List ℤ) → RowsHoldAtWhole rows zs → RowsHoldAt rows (whole (pos 1)) (wholes zs)
rows_to_point rows zs r = record { each = λ k d below. to_point (get_or rows k d) zs (r.each k d below) }

pub is_point : (rows : List Linear) (zs : List ℤ) → RowsHoldAtWhole rows zs → IsPointOf rows (point_of zs)
is_point rows zs r = record { positive = record { lt = tt }; holds = rows_to_point rows zs r }

-- a step from whole numbers is live
pub is_live : (step : Transition) (zs : List ℤ) → RowsHoldAtWhole (lins step.rows) zs → IsLive step
is_live step zs r = (point_of zs, is_point (lins step.rows) zs r)

pub entailed_holds : EntailedHolds
entailed_holds rows goal zs e r = from_point goal zs (e.holds (whole (pos 1)) (wholes zs) (record { lt = tt }) (rows_to_point rows zs r))

-- ---- rankings
whole_fall : (d a b : ℤ) → IsAtMost (times (whole d) (whole (pos 1))) (minus (whole a) (whole b)) → (b +ℤ d) ≤ℤ a
whole_fall d a b h = omega (arith, ints, h)

pub ranking_falls : RankingFalls
ranking_falls sizes steps f c d step before now r m s =
    let p = point_of before in
    let here = is_point (lins step.rows) before s.rows in
    let low : HoldsAtWhole (raised f c) before = from_point (raised f c) before (r.not_negative step p m here) in
    let value : whole_value (raised f c) before ≡ whole_value f before +ℤ c =
    whole_value-plus f (lin_constant c) before ∙ ap (λ k. whole_value f before +ℤ k) (whole_value-constant c before) in
    let fall : IsAtMost (times (whole d) (whole (pos 1))) (minus (value_at f (whole (pos 1)) (wholes before)) (value_at f (whole (pos 1)) (next_at step.next (whole (pos 1)) (wholes before)))) = r.falls step p m here in
    let first : IsAtMost (times (whole d) (whole (pos 1))) (minus (whole (whole_value f before)) (value_at f (whole (pos 1)) (next_at step.next (whole (pos 1)) (wholes before)))) =
    subst (λ (x : Fraction). IsAtMost (times (whole d) (whole (pos 1))) (minus x (value_at f (whole (pos 1)) (next_at step.next (whole (pos 1)) (wholes before))))) (value_of_wholes f before) fall in
    let second : IsAtMost (times (whole d) (whole (pos 1))) (minus (whole (whole_value f before)) (value_at f (whole (pos 1)) (wholes (next_wholes step.next before)))) =
    subst (λ (v : List Fraction). IsAtMost (times (whole d) (whole (pos 1))) (minus (whole (whole_value f before)) (value_at f (whole (pos 1)) v))) (next_of_wholes step.next before) first in
    let third : IsAtMost (times (whole d) (whole (pos 1))) (minus (whole (whole_value f before)) (whole (whole_value f (next_wholes step.next before)))) =
    subst (λ (x : Fraction). IsAtMost (times (whole d) (whole (pos 1))) (minus (whole (whole_value f before)) x)) (value_of_wholes f (next_wholes step.next before)) second in (
      subst (λ k. pos 0 ≤ℤ k) value low.not_negative,
      subst (λ (ys : List ℤ). (whole_value f ys +ℤ d) ≤ℤ whole_value f before) (sym s.next) (whole_fall d (whole_value f before) (whole_value f (next_wholes step.next before)) third),
    )
