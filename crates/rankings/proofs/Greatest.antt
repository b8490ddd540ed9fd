-- What shows the greatest inductive set.
use Rattle.std.specs.Prelude.{◌⊎◌, ℕ, zero, suc, ℤ, pos, List, [], ◌∷◌, ◌++◌, map, drop, replicate, Contains}
use Rattle.std.proofs.Common.{sym, subst, inl, inr, get_or}
use Rattle.std.proofs.lemmas.List.Elements.{All-contains, All-contains_itself, Contains-append_cases, Contains-append_left, Contains-append_right}
use Rattle.common_laws.proofs.Members.{contains_cases, contains_none, in_map}
use Rattle.q128.specs.Fraction.{Fraction, whole, IsSame, plus, times}
use Rattle.q128.proofs.Field.{same_refl, same_trans, plus-same, zero-times, zero-plus, nonneg-same}
use Rattle.lin_rows.specs.declared.point.Point.{Point}
use Rattle.lin_rows.specs.declared.row.Transition.{Transition}
use Rattle.lin_rows.specs.Linear.{Linear}
use Rattle.lin_rows.specs.Points.{dot, HoldsAt, RowsHoldAt}
use Rattle.lin_rows.specs.Rows.{lins}
use Rattle.lin_rows.proofs.Sound.{proved_holds}
use Rattle.rankings.specs.Entailment.{IsPointOf, IsLive}
use Rattle.rankings.specs.Templates.{templates_of, shifted, visit_rows, stepped, IsInductive, Lost, IsLost, AreLost}
use Rattle.rankings.specs.Laws.{ShownIsGreatest}
use Rattle.rankings.proofs.TemplateValues.{marked}

row_at_point : (rows : List Linear) (t : Fraction) (v : List Fraction) (l : Linear) → RowsHoldAt rows t v → Contains rows l → HoldsAt l t v
row_at_point rows t v l r m = All-contains (λ (k : Linear). HoldsAt k t v) rows l r.each m

rows_at_point : (rows : List Linear) (t : Fraction) (v : List Fraction) → ((l : Linear) → Contains rows l → HoldsAt l t v) → RowsHoldAt rows t v
rows_at_point rows t v h = record { each = λ k d below. h (get_or rows k d) (All-contains_itself rows k d below) }

-- ---- rows behind n others
shifted_dot : (n : ℕ) (c : List ℤ) (v : List Fraction) → IsSame (dot (λ i. whole (get_or (replicate n (pos 0) ++ c) i (pos 0))) v) (dot (λ i. whole (get_or c i (pos 0))) (drop n v))
shifted_dot zero c v = same_refl (dot (λ i. whole (get_or c i (pos 0))) v)
shifted_dot (suc n) c [] = same_refl (whole (pos 0))
shifted_dot (suc n) c (q ∷ v) =
    let rest = dot (λ i. whole (get_or (replicate n (pos 0) ++ c) i (pos 0))) v in
    let first = times (whole (pos 0)) q in
    same_trans (plus first rest) (plus (whole (pos 0)) rest) (dot (λ i. whole (get_or c i (pos 0))) (drop n v))
    (plus-same first (whole (pos 0)) rest rest (zero-times q) (same_refl rest))
    (same_trans (plus (whole (pos 0)) rest) rest (dot (λ i. whole (get_or c i (pos 0))) (drop n v)) (zero-plus rest) (shifted_dot n c v))

shifted_holds : (n : ℕ) (l : Linear) (t : Fraction) (v : List Fraction) → HoldsAt (shifted n l) t v → HoldsAt l t (drop n v)
shifted_holds n l t v h =
    let k = times (whole l.constant) t in
    let a = dot (λ i. whole (get_or (replicate n (pos 0) ++ l.coefficients) i (pos 0))) v in
    let b = dot (λ i. whole (get_or l.coefficients i (pos 0))) (drop n v) in
    record { not_negative = nonneg-same (plus a k) (plus b k) (plus-same a b k k (shifted_dot n l.coefficients v) (same_refl k)) h.not_negative }

-- a point of a visit's rows makes the step live
live_there : (n : ℕ) (step : Transition) (kept : List Linear) (p : Point) → IsPointOf (visit_rows n (lins step.rows) kept) p → IsLive step
live_there n step kept p is = (
  record { t = p.t; v = drop n p.v },
  record {
    positive = is.positive;
    holds = rows_at_point (lins step.rows) p.t (drop n p.v) (λ l m. shifted_holds n l p.t p.v
        (row_at_point (visit_rows n (lins step.rows) kept) p.t p.v (shifted n l) is.holds (Contains-append_left (map (shifted n) (lins step.rows)) kept (shifted n l) (in_map (shifted n) (lins step.rows) l m))));
  },
)

-- ---- no other set has a lost template
abbrev pub templates_in : List Lost → List Linear
templates_in lost = map (λ (l : Lost). l.template) lost

module _ (n : ℕ) (steps : List Transition) (kept other : List Linear) (is : IsInductive n steps other) where
  -- the point of a lost template meets the rows of another set that has nothing but what is kept or lost later
  meets_other : (step : Transition) (l : Linear) (later : List Linear) (p : Point) → ((h : Linear) → Contains other h → Contains kept h ⊎ Contains (l ∷ later) h)
      → IsPointOf (visit_rows n (lins step.rows) (kept ++ l ∷ later)) p → RowsHoldAt (visit_rows n (lins step.rows) other) p.t p.v
  meets_other step l later p within point =
      let rows = map (shifted n) (lins step.rows) in
      let at = λ (h : Linear) (m : Contains (rows ++ (kept ++ l ∷ later)) h). row_at_point (visit_rows n (lins step.rows) (kept ++ l ∷ later)) p.t p.v h point.holds m in
      rows_at_point (visit_rows n (lins step.rows) other) p.t p.v (λ h m. elim (Contains-append_cases rows other h m) [
        | inl r ↦ at h (Contains-append_left rows (kept ++ l ∷ later) h r)
        | inr o ↦ elim (within h o) [
          | inl k ↦ at h (Contains-append_right rows (kept ++ l ∷ later) h (Contains-append_left kept (l ∷ later) h k))
          | inr q ↦ at h (Contains-append_right rows (kept ++ l ∷ later) h (Contains-append_right kept (l ∷ later) h q))
        ]
      ])

  not_lost : (l : Lost) (later : List Lost) → IsLost n steps kept later l → ((h : Linear) → Contains other h → Contains kept h ⊎ Contains (templates_in (l ∷ later)) h) → Contains other l.template → ⊥
  not_lost l later lost within m =
      let rows = meets_other l.step l.template (templates_in later) l.point within lost.point in
      let live = live_there n l.step (kept ++ l.template ∷ templates_in later) l.point lost.point in
      lost.fails ((is.stays l.step l.template lost.is_step live m).holds l.point.t l.point.v lost.point.positive rows)

  none_lost : (lost : List Lost) → AreLost n steps kept lost → ((h : Linear) → Contains other h → Contains kept h ⊎ Contains (templates_in lost) h) → (g : Linear) → Contains other g → Contains kept g
  none_lost [] are within g m = elim (within g m) [ inl k ↦ k | inr none ↦ absurd (contains_none g none) ]
  none_lost (l ∷ later) are within g m =
      none_lost later are.1 (λ h o. elim (within h o) [
        | inl k ↦ inl k
        | inr q ↦ elim (contains_cases l.template (templates_in later) h q) [
          | inl e ↦ absurd (not_lost l later are.0 within (subst (λ (x : Linear). Contains other x) (sym e) o))
          | inr t ↦ inr t
        ]
      ]) g m

pub shown_is_greatest : ShownIsGreatest
shown_is_greatest n steps kept lost s = record {
  inductive = record {
    templates = s.templates;
    stays = λ step g c live m. record { holds = λ t v h r. let p = s.stays step g c live m in proved_holds (visit_rows n (lins step.rows) kept) p.0 (stepped n step.next g) t v p.1 h r };
  };
  greatest = λ other g is m. none_lost n steps kept other is lost s.none_kept (λ h o. s.all h (marked is.templates.0 (templates_of n) h (subst (λ (xs : List Linear). Contains xs h) is.templates.1 o))) g m;
}
