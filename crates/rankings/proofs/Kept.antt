-- Inductive templates hold at each visit.
use Rattle.std.specs.Prelude.{◌≡◌, ℕ, ℤ, pos, negsuc, ◌≤ℤ◌, List, [], ◌∷◌, ◌++◌, length, map, Contains}
use Rattle.std.proofs.Common.{arith, refl, sym, ap, ◌∙◌, subst, inl, inr, get_or}
use Rattle.std.proofs.lemmas.Int.{ints}
use Rattle.std.proofs.lemmas.List.Elements.{All-contains, All-contains_itself, Contains-append_cases}
use Rattle.common_laws.proofs.Members.{from_map}
use Rattle.q128.specs.Fraction.{whole, IsSame, times, inverse}
use Rattle.q128.proofs.Field.{same_refl}
use Rattle.q128.proofs.Ordered.{are_ordered_field}
use Rattle.lin_rows.specs.declared.row.Transition.{Transition}
use Rattle.lin_rows.specs.Linear.{Linear}
use Rattle.lin_rows.specs.Points.{whole_value, HoldsAtWhole, RowsHoldAtWhole}
use Rattle.lin_rows.specs.Rows.{lins}
use Rattle.lin_rows.specs.Transitions.{next_wholes}
use Rattle.lin_rows.specs.Proving.{Multipliers}
use Rattle.lin_rows.proofs.Expressions.{whole_value-constant}
use Rattle.lin_rows.proofs.Sound.{proved_holds_at_whole}
use Rattle.small_cert.specs.Small.{IsMultiple, IsSmall, AreShared, falsehood}
use Rattle.small_cert.proofs.Proved.{small_reaches}
use Rattle.small_levels.specs.Leveled as small
use Rattle.rankings.specs.Entailment.{Entails, IsLive}
use Rattle.rankings.specs.Templates.{templates_of, shifted, visit_rows, stepped, IsInductiveBy}
use Rattle.rankings.specs.Visits.{Visits, first, later, HaveSizes}
use Rattle.rankings.specs.Laws.{KeptHolds, SmallKeptHolds}
use Rattle.rankings.proofs.Wholes.{is_live, entailed_holds}
use Rattle.rankings.proofs.Places.{shifted_value, next_length}
use Rattle.rankings.proofs.TemplateValues.{comparison, marked, holds_at_entry, value_at_visit, stepped_value}

pub row_of : (rows : List Linear) (zs : List ℤ) (l : Linear) → RowsHoldAtWhole rows zs → Contains rows l → HoldsAtWhole l zs
row_of rows zs l r m = All-contains (λ (k : Linear). HoldsAtWhole k zs) rows l r.each m

pub all_rows : (rows : List Linear) (zs : List ℤ) → ((l : Linear) → Contains rows l → HoldsAtWhole l zs) → RowsHoldAtWhole rows zs
all_rows rows zs h = record { each = λ k d below. h (get_or rows k d) (All-contains_itself rows k d below) }

-- the rows at a visit hold where the step's rows and the templates do
pub visit_holds : (n : ℕ) (rows kept : List Linear) (e y : List ℤ) → length e ≡ n → RowsHoldAtWhole rows y → ((g : Linear) → Contains kept g → HoldsAtWhole g (e ++ y)) → RowsHoldAtWhole (visit_rows n rows kept) (e ++ y)
visit_holds n rows kept e y len r k = all_rows (visit_rows n rows kept) (e ++ y) (λ l m. elim (Contains-append_cases (map (shifted n) rows) kept l m) [
  | inl s ↦
      let f = from_map (shifted n) rows l s in
      subst (λ (h : Linear). HoldsAtWhole h (e ++ y)) f.2 (record { not_negative = subst (λ z. pos 0 ≤ℤ z) (sym (shifted_value n f.0 e y len)) (row_of rows y f.0 r f.1).not_negative })
  | inr t ↦ k l t
])

-- ---- small rows
pub not_zero : (k : ℤ) → IsMultiple k → IsSame (whole k) (whole (pos 0)) → ⊥
not_zero k (inl e) h = omega (arith, ints, e, h)
not_zero k (inr e) h = omega (arith, ints, e, h)

-- each multiplier divided by k
pub divided : ℤ → Multipliers → Multipliers
divided k [] = []
divided k (p ∷ m) = (p.0, times p.1 (inverse (whole k))) ∷ divided k m

pub are_shared : (k : ℤ) (m : Multipliers) → (IsSame (whole k) (whole (pos 0)) → ⊥) → AreShared (divided k m) m k
unfolding divided
are_shared k [] apart = tt
are_shared k (p ∷ m) apart =
    let z = times p.1 (inverse (whole k)) in
    ((refl, (are_ordered_field.quotients p.1 (whole k) z apart).1 (same_refl z)), are_shared k m apart)

-- a small row holds where the rows hold
pub small_holds : (rows : List Linear) (goal : Linear) (zs : List ℤ) → IsSmall rows goal → RowsHoldAtWhole rows zs → HoldsAtWhole goal zs
small_holds rows goal zs s r =
    let n = divided s.1 s.0 in
    proved_holds_at_whole rows n goal zs (inl (small_reaches rows goal n s.0 s.1 s.2 (are_shared s.1 s.0 (not_zero s.1 s.2.multiple)))) r

module _ (Lives : Transition → Type 0) (Follows : List Linear → Linear → Type 0)
    (live : (step : Transition) (zs : List ℤ) → RowsHoldAtWhole (lins step.rows) zs → Lives step)
    (sound : (rows : List Linear) (goal : Linear) (zs : List ℤ) → Follows rows goal → RowsHoldAtWhole rows zs → HoldsAtWhole goal zs)
    (n : ℕ) (steps : List Transition) (kept : List Linear) (e : List ℤ) (is : IsInductiveBy Lives Follows n steps kept) (sizes : HaveSizes n steps) (len : length e ≡ n) where
  in_list : (g : Linear) → Contains kept g → Contains (templates_of n) g
  in_list g m = marked is.templates.0 (templates_of n) g (subst (λ (xs : List Linear). Contains xs g) is.templates.1 m)

  pub visit_size : (x : List ℤ) → Visits steps e x → length x ≡ n
  visit_size x first = len
  visit_size x (later step zs before m s) = ap length s.next ∙ next_length step.next _ ∙ sizes.each step m

  pub template_behind : (x zs : List ℤ) (g : Linear) → length x ≡ n → Contains kept g → HoldsAtWhole g (e ++ x) → HoldsAtWhole g (e ++ (x ++ zs))
  template_behind x zs g size m h =
      record { not_negative = subst (λ z. pos 0 ≤ℤ z) (sym (value_at_visit n g e x zs len size (comparison n g (in_list g m)))) h.not_negative }

  pub kept_at : (x : List ℤ) → Visits steps e x → (g : Linear) → Contains kept g → HoldsAtWhole g (e ++ x)
  kept_at x first g m = holds_at_entry n g e len (comparison n g (in_list g m))
  kept_at x (later {x = w} step zs before c s) g m =
      let y : List ℤ = w ++ zs in
      let size : length w ≡ n = visit_size w before in
      let rows = visit_holds n (lins step.rows) kept e y len s.rows (λ h k. template_behind w zs h size k (kept_at w before h k)) in
      let held = sound (visit_rows n (lins step.rows) kept) (stepped n step.next g) (e ++ y) (is.stays step g c (live step y s.rows) m) rows in
      let there : HoldsAtWhole g (e ++ next_wholes step.next y) = record { not_negative = subst (λ z. pos 0 ≤ℤ z) (stepped_value n step.next g e y len) held.not_negative } in
      subst (λ (now : List ℤ). HoldsAtWhole g (e ++ now)) (sym s.next) there

pub kept_holds : KeptHolds
kept_holds n steps kept e x g is sizes len v m = kept_at IsLive Entails is_live entailed_holds n steps kept e is sizes len x v g m

-- ---- by small sums
-- rows that hold at whole numbers don't contradict each other by a small sum
small_live : (step : Transition) (zs : List ℤ) → RowsHoldAtWhole (lins step.rows) zs → small.IsLive step
small_live step zs r = record { live = λ s. let h = (small_holds (lins step.rows) falsehood zs s r).not_negative in never (whole_value falsehood zs) (whole_value-constant (negsuc 0) zs) h }
  where
    never : (v : ℤ) → v ≡ negsuc 0 → pos 0 ≤ℤ v → ⊥
    never v value h = omega (arith, ints, value, h)

pub small_kept_holds : SmallKeptHolds
small_kept_holds n steps kept e x g is sizes len v m = kept_at small.IsLive IsSmall small_live small_holds n steps kept e is sizes len x v g m
