-- A capped expression is at most its cap.
use Rattle.std.specs.Prelude.{◌≡◌, ℕ, zero, suc, ◌+◌, ◌<◌, ℤ, pos, neg_ℤ, ◌+ℤ◌, ◌*ℤ◌, ◌≤ℤ◌, List, ◌++◌, length, Contains}
use Rattle.std.specs.List.{range_with_len}
use Rattle.std.proofs.Common.{arith, ap, ◌∙◌, subst, inl, inr}
use Rattle.std.proofs.lemmas.Int.{ints}
use Rattle.q128.proofs.Ring.{neg_ℤ-*ℤ}
use Rattle.common_laws.proofs.Members.{contains_none, contains_cases}
use Rattle.lin_rows.specs.Linear.{Linear}
use Rattle.lin_rows.specs.Points.{whole_value}
use Rattle.lin_rows.specs.Transitions.{lin_times}
use Rattle.lin_rows.proofs.Sound.{proved_holds_at_whole}
use Rattle.lin_rows.proofs.Expressions.{whole_value-plus, whole_value-times}
use Rattle.small_caps.specs.Caps.{IsOver}
use Rattle.rankings.specs.Entailment.{Entails, IsLive}
use Rattle.rankings.specs.Templates.{shifted, visit_rows}
use Rattle.rankings.specs.Caps.{slack_of, entry_sizes}
use Rattle.rankings.specs.Laws.{CapHolds, CapHoldsAtVisits, CapHoldsAtEntry}
use Rattle.rankings.proofs.Wholes.{is_live, entailed_holds}
use Rattle.rankings.proofs.Places.{shifted_value, value_over_first}
use Rattle.rankings.proofs.Kept.{visit_holds, visit_size, template_behind, kept_at}

slack_value : (u : Linear) (s : ℕ) (l : Linear) (zs : List ℤ) → whole_value (slack_of u s l) zs ≡ whole_value u zs +ℤ neg_ℤ (pos s *ℤ whole_value l zs)
slack_value u s l zs =
    whole_value-plus u (lin_times (neg_ℤ (pos s)) l) zs ∙ ap (λ k. whole_value u zs +ℤ k) (whole_value-times (neg_ℤ (pos s)) l zs ∙ neg_ℤ-*ℤ (pos s) (whole_value l zs))

pub cap_holds : CapHolds
cap_holds rows entry l u s m zs c r = low (whole_value u zs) (pos s *ℤ whole_value l zs) _ (slack_value u s l zs) (proved_holds_at_whole rows m (slack_of u s l) zs c.proved r).not_negative
  where
    low : (a b v : ℤ) → v ≡ a +ℤ neg_ℤ b → pos 0 ≤ℤ v → b ≤ℤ a
    low a b v value h = omega (arith, ints, value, h)

in_range : (a n i : ℕ) → Contains (range_with_len a n) i → i < a + n
in_range a zero i m = absurd (contains_none i m)
in_range a (suc n) i m = elim (contains_cases a (range_with_len (a + 1) n) i m) [
  | inl e ↦ omega (arith, e)
  | inr t ↦ let low = in_range (a + 1) n i t in omega (arith, low)
]

-- what is over entry sizes is worth the same whatever stands behind them
over_entry : (n : ℕ) (u : Linear) (e y : List ℤ) → length e ≡ n → IsOver (entry_sizes n) u → whole_value u (e ++ y) ≡ whole_value u e
over_entry n u e y len over =
    value_over_first u e y (λ i used. let low : i < 0 + n = in_range 0 n i (over.each i used) in omega (arith, low, len))

pub cap_holds_at_visits : CapHoldsAtVisits
cap_holds_at_visits n steps kept rows l u s e x zs is sizes len v c r =
    let y : List ℤ = x ++ zs in
    let size = visit_size IsLive Entails is_live entailed_holds n steps kept e is sizes len x v in
    let all = visit_holds n rows kept e y len r (λ g m. template_behind IsLive Entails is_live entailed_holds n steps kept e is sizes len x zs g size m (kept_at IsLive Entails is_live entailed_holds n steps kept e is sizes len x v g m)) in
    let held : (pos s *ℤ whole_value (shifted n l) (e ++ y)) ≤ℤ whole_value u (e ++ y) = cap_holds (visit_rows n rows kept) (entry_sizes n) (shifted n l) u s c.multipliers (e ++ y) c.is all in
    let moved : (pos s *ℤ whole_value l y) ≤ℤ whole_value u (e ++ y) = subst (λ k. (pos s *ℤ k) ≤ℤ whole_value u (e ++ y)) (shifted_value n l e y len) held in
    subst (λ k. (pos s *ℤ whole_value l y) ≤ℤ k) (over_entry n u e y len c.is.over) moved

pub cap_holds_at_entry : CapHoldsAtEntry
cap_holds_at_entry n kept rows l u s e zs len c r =
    subst (λ k. (pos s *ℤ whole_value l (e ++ zs)) ≤ℤ k) (over_entry n u e zs len c.is.over) (cap_holds rows (entry_sizes n) l u s c.multipliers (e ++ zs) c.is r)
