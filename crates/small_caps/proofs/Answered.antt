-- The answer: each cap is covered, and the first one.
use Rattle.std.specs.Prelude.{◌≡◌, ℕ, ◌+◌, ◌*◌, ◌/◌, ◌<◌, ◌≤◌, ◌^◌, ℤ, pos, ◌-ℤ◌, ◌*ℤ◌, List, [], ◌∷◌, length, Option, Some, None, MatchOption, Result, Ok, Err, IfOk}
use Rattle.std.specs.declared.alloc.AllocError.{AllocError}
use Rattle.std.proofs.lemmas.List.{length-map}
use Rattle.lin_rows.specs.declared.row.Row.{Row}
use Rattle.lin_rows.specs.Rows.{lins}
use Rattle.std.proofs.Common.{arith, sym, ap, ◌∙◌, subst, inl, inr}
use Rattle.std.proofs.lemmas.Int.{ints}
use Rattle.q128.specs.Fraction.{Fraction}
use Rattle.lin_rows.specs.Linear.{Linear, coefficient_of, nothing}
use Rattle.lin_rows.specs.Proving.{Multipliers}
use Rattle.lin_rows.specs.Combining.{Combination}
use Rattle.small_sums.specs.Sums.{IsSmallSum}
use Rattle.small_sums.specs.Places.{term_at}
use Rattle.small_sums.specs.Terms.{term_of}
use Rattle.small_sums.proofs.Matches.{Place, place_at}
use Rattle.small_cert.specs.Small.{IsMultiple, IsSmall, IsSmallBy, AreShared, falsehood}
use Rattle.small_cert.specs.Multiples.{times_of}
use Rattle.small_caps.specs.Caps.{IsOver, IsCapBy, IsFirstCap, IsSmallCap, own, dead, made, HasNoCap}
use Rattle.small_caps.specs.declared.pick.Front.{Front}
use Rattle.small_caps.specs.declared.pick.Front.TheVariants.{Zero, One, Two}
use Rattle.small_caps.specs.declared.search.Found.{Found}
use Rattle.small_caps.specs.inside.Picks.{multipliers_in, IsFront}
use Rattle.small_caps.specs.inside.Search.{IsBest, IsBetter, Covers, Question, CoversAll}
use Rattle.small_caps.proofs.Candidates.{one_coefficient}
use Rattle.small_caps.proofs.Totals.{cap_sum}

-- ---- no rows make a cap of an expression that isn't over entry sizes alone
zero_distance : (k l : ℤ) → pos 0 ≡ k *ℤ (l -ℤ l)
zero_distance k l = times_nothing k ∙ ap (λ (z : ℤ). k *ℤ z) (nothing l)
  where
    times_nothing : (k : ℤ) → pos 0 ≡ k *ℤ pos 0
    times_nothing k = omega (arith, ints)

    nothing : (l : ℤ) → pos 0 ≡ l -ℤ l
    nothing l = omega (arith, ints)

none_over : (rows : List Linear) (l : Linear) (entry : List ℕ) (k : ℤ) (w : Linear) → IsCapBy rows l entry w [] k → IsOver entry l
none_over rows l entry k w h = record {
  each = λ v ne.
      let same : coefficient_of w v ≡ coefficient_of l v = one_coefficient k (pos 0) (coefficient_of l v) (coefficient_of w v) (coefficient_of l v) h.multiple (cap_sum rows l entry k [] w h v) (zero_distance k (coefficient_of l v)) in
      h.cap.over.each v (λ (e : coefficient_of w v ≡ pos 0). ne (sym same ∙ e));
}

-- ---- each cap is covered
module _ (q : Question) (best : Option Found) (all : CoversAll q best (2 * length q.rows)) (not_over : IsOver q.entry q.l → ⊥) where
  abbrev IsCap : Linear → Multipliers → Type 0
  IsCap w m = IsCapBy q.rows q.l q.entry w m q.times

  one_covered : (w : Linear) (p : ℕ × Fraction) → Place (length q.rows) p → IsCap w (p ∷ []) → Covers best w
  one_covered w p at h = (all.zero.each at.place at.within tt).each w (subst (λ (r : ℕ × Fraction). IsCap w (r ∷ [])) (sym at.is) h)

  behind : (p q : ℕ × Fraction) (a b : ℕ) → a / 2 + 1 ≡ p.0 → b / 2 + 1 ≡ q.0 → p.0 < q.0 → a / 2 < b / 2
  behind p q a b e f lt = omega (arith, e, f, lt)

  two_covered : (w : Linear) (p r : ℕ × Fraction) → Place (length q.rows) p → Place (length q.rows) r → p.0 < r.0 → IsCap w (p ∷ r ∷ []) → Covers best w
  two_covered w p r at to lt h =
      let first : IsCap w (term_of (term_at at.place) ∷ r ∷ []) = subst (λ (x : ℕ × Fraction). IsCap w (x ∷ r ∷ [])) (sym at.is) h in
      let moved : IsCap w (term_of (term_at at.place) ∷ term_of (term_at to.place) ∷ []) = subst (λ (x : ℕ × Fraction). IsCap w (term_of (term_at at.place) ∷ x ∷ [])) (sym to.is) first in
      ((all.each at.place at.within).one.each to.place to.within (behind p r at.place to.place at.half to.half lt)).each w moved

  three_covered : (w : Linear) (p r s : ℕ × Fraction) → Place (length q.rows) p → Place (length q.rows) r → Place (length q.rows) s → p.0 < r.0 → r.0 < s.0 → IsCap w (p ∷ r ∷ s ∷ []) → Covers best w
  three_covered w p r s at to on lt less h =
      let first : IsCap w (term_of (term_at at.place) ∷ r ∷ s ∷ []) = subst (λ (x : ℕ × Fraction). IsCap w (x ∷ r ∷ s ∷ [])) (sym at.is) h in
      let second : IsCap w (term_of (term_at at.place) ∷ term_of (term_at to.place) ∷ s ∷ []) = subst (λ (x : ℕ × Fraction). IsCap w (term_of (term_at at.place) ∷ x ∷ s ∷ [])) (sym to.is) first in
      let moved : IsCap w (term_of (term_at at.place) ∷ term_of (term_at to.place) ∷ term_of (term_at on.place) ∷ []) = subst (λ (x : ℕ × Fraction). IsCap w (term_of (term_at at.place) ∷ term_of (term_at to.place) ∷ x ∷ [])) (sym on.is) second in
      (((all.each at.place at.within).two to.place to.within (behind p r at.place to.place at.half to.half lt)).each on.place on.within (behind r s to.place on.place to.half on.half less)).each w moved

  pub all_covered : (w : Linear) (m : Multipliers) → IsCap w m → Covers best w
  all_covered w [] h = absurd (not_over (none_over q.rows q.l q.entry q.times w h))
  all_covered w ((i, a) ∷ []) h =
      let low = h.small.numbers.each 0 (i, a) (omega arith) in
      one_covered w (i, a) (place_at (length q.rows) i a (h.small.factors 0 (i, a) (omega arith)) low.0 low.1) h
  all_covered w ((i, a) ∷ (j, b) ∷ []) h =
      let low = h.small.numbers.each 0 (i, a) (omega arith) in
      let high = h.small.numbers.each 1 (i, a) (omega arith) in
      two_covered w (i, a) (j, b) (place_at (length q.rows) i a (h.small.factors 0 (i, a) (omega arith)) low.0 low.1) (place_at (length q.rows) j b (h.small.factors 1 (i, a) (omega arith)) high.0 high.1) (h.small.rising 0 (omega arith)) h
  all_covered w ((i, a) ∷ (j, b) ∷ (k, d) ∷ []) h =
      let low = h.small.numbers.each 0 (i, a) (omega arith) in
      let high = h.small.numbers.each 1 (i, a) (omega arith) in
      let last = h.small.numbers.each 2 (i, a) (omega arith) in
      three_covered w (i, a) (j, b) (k, d) (place_at (length q.rows) i a (h.small.factors 0 (i, a) (omega arith)) low.0 low.1) (place_at (length q.rows) j b (h.small.factors 1 (i, a) (omega arith)) high.0 high.1)
      (place_at (length q.rows) k d (h.small.factors 2 (i, a) (omega arith)) last.0 last.1) (h.small.rising 0 (omega arith)) (h.small.rising 1 (omega arith)) h
  all_covered w (p ∷ r ∷ s ∷ t ∷ m) h = absurd (let few = h.small.few in omega (arith, few))

-- ---- once and twice
abbrev pub question : List Linear → List Linear → Linear → List ℕ → ℤ → Question
question rows masked l entry k = record { rows = rows; l = l; entry = entry; times = k; masked = masked }

pub both_best : (rows masked : List Linear) (l : Linear) (entry : List ℕ) (once best : Option Found) → CoversAll (question rows masked l entry (pos 1)) once (2 * length rows) → IsBetter rows l entry once best → CoversAll (question rows masked l entry (pos 2)) best (2 * length rows) → IsBest rows l entry best
both_best rows masked l entry once best first better second = record {
  found = better.found;
  each = λ not_over w m k h. by not_over w m k h h.multiple;
}
  where
    by : (IsOver entry l → ⊥) → (w : Linear) (m : Multipliers) (k : ℤ) → IsCapBy rows l entry w m k → IsMultiple k → Covers best w
    by not_over w m k h (inl e) = better.keeps.each w (all_covered (question rows masked l entry (pos 1)) once first not_over w m (subst (λ (j : ℤ). IsCapBy rows l entry w m j) e h))
    by not_over w m k h (inr e) = all_covered (question rows masked l entry (pos 2)) best second not_over w m (subst (λ (j : ℤ). IsCapBy rows l entry w m j) e h)

-- ---- the answer
pub none_best : (rows : List Linear) (l : Linear) (entry : List ℕ) (best : Option Found) → best ≡ None → IsBest rows l entry best → (IsOver entry l → ⊥) → (IsSmall rows falsehood → ⊥) → HasNoCap rows l entry
none_best rows l entry best e h not_over not_dead = record { not_over = not_over; not_dead = not_dead; none = λ u m k cap. subst (λ (b : Option Found). Covers b u) e (h.each not_over u m k cap) }

first_best : (rows : List Linear) (l : Linear) (entry : List ℕ) (best : Option Found) (found : Found) → best ≡ Some found → IsBest rows l entry best → (IsOver entry l → ⊥) → IsFirstCap rows l entry found.cap (multipliers_in found.pick.front found.pick.last) (times_of found.multiple)
first_best rows l entry best found e h not_over =
    let k : IsBest rows l entry (Some found) = subst (λ (b : Option Found). IsBest rows l entry b) e h in
    record { made = k.found.made; each = λ w n j cap. k.each not_over w n j cap }

-- ---- its places
place_fits : (a n : ℕ) → a / 2 + 1 ≤ n → n < 2 ^ 32 → a < 8589934590
place_fits a n h lt = omega (arith, h, lt)

picks_fit : (rows : List Linear) (front : Front) (last : ℕ) (s : Combination) → IsSmallSum rows 3 (multipliers_in front last) s → length rows < 2 ^ 32 → IsFront 8589934590 front × (last < 8589934590)
picks_fit rows Zero last s h lt = (tt, place_fits last (length rows) (h.numbers.each 0 (term_of (term_at last)) (omega arith)).1 lt)
picks_fit rows (One a) last s h lt = (place_fits a (length rows) (h.numbers.each 0 (term_of (term_at last)) (omega arith)).1 lt, place_fits last (length rows) (h.numbers.each 1 (term_of (term_at last)) (omega arith)).1 lt)
picks_fit rows (Two a b) last s h lt = (
  (place_fits a (length rows) (h.numbers.each 0 (term_of (term_at last)) (omega arith)).1 lt, place_fits b (length rows) (h.numbers.each 1 (term_of (term_at last)) (omega arith)).1 lt, less (h.rising 0 (omega arith))),
  place_fits last (length rows) (h.numbers.each 2 (term_of (term_at last)) (omega arith)).1 lt,
)
  where
    less : a / 2 + 1 < b / 2 + 1 → a / 2 < b / 2
    less h = omega (arith, h)

-- ---- the same with what the code makes
pub best_answer : (rows : List Row) (masked : List Linear) (l : Linear) (entry : List ℕ) (once : Option Found) (res : Result (Option Found) AllocError) → CoversAll (question (lins rows) masked l entry (pos 1)) once (2 * length rows)
    → IfOk res (λ now. IsBetter (lins rows) l entry once now × CoversAll (question (lins rows) masked l entry (pos 2)) now (2 * length rows)) → IfOk res (IsBest (lins rows) l entry)
best_answer rows masked l entry once (Err e) first h = h
best_answer rows masked l entry once (Ok now) first h = both_best (lins rows) masked l entry once now (counted once (pos 1) first) h.0 (counted now (pos 2) h.1)
  where
    counted : (best : Option Found) (k : ℤ) → CoversAll (question (lins rows) masked l entry k) best (2 * length rows) → CoversAll (question (lins rows) masked l entry k) best (2 * length (lins rows))
    counted best k covers = subst (λ (n : ℕ). CoversAll (question (lins rows) masked l entry k) best (2 * n)) (sym (length-map rows (λ (r : Row). r.lin))) covers

pub not_dead_by : (rows : List Linear) (o : Option Multipliers) (Q : Multipliers → Type 0) → o ≡ None → MatchOption o (IsSmall rows falsehood → ⊥) Q → IsSmall rows falsehood → ⊥
not_dead_by rows o Q e h = subst (λ (o : Option Multipliers). MatchOption o (IsSmall rows falsehood → ⊥) Q) e h

pub own_answer : (rows : List Linear) (l u : Linear) (entry : List ℕ) (n : Multipliers) → IsOver entry l → u ≡ l → n ≡ [] → IsSmallCap rows l entry u n
own_answer rows l u entry n over e f = subst (λ (w : Linear). IsSmallCap rows l entry w n) (sym e) (subst (λ (m : Multipliers). IsSmallCap rows l entry l m) (sym f) (own over))

pub dead_answer : (rows : List Linear) (l u : Linear) (entry : List ℕ) (o : Option Multipliers) (n : Multipliers) → (IsOver entry l → ⊥) → o ≡ Some n
    → MatchOption o (IsSmall rows falsehood → ⊥) (λ n. (m : Multipliers) × (k : ℤ) × IsSmallBy rows falsehood m k × AreShared n m k) → u ≡ nothing → IsSmallCap rows l entry u n
dead_answer rows l u entry o n not_over e h f =
    let proved = subst (λ (o : Option Multipliers). MatchOption o (IsSmall rows falsehood → ⊥) (λ n. (m : Multipliers) × (k : ℤ) × IsSmallBy rows falsehood m k × AreShared n m k)) e h in
    subst (λ (w : Linear). IsSmallCap rows l entry w n) (sym f) (dead not_over proved.2 proved.3)

pub taken_answer : (rows : List Linear) (l u : Linear) (entry : List ℕ) (best : Option Found) (found : Found) (n : Multipliers) → best ≡ Some found → IsBest rows l entry best → (IsOver entry l → ⊥) → (IsSmall rows falsehood → ⊥)
    → u ≡ found.cap → AreShared n (multipliers_in found.pick.front found.pick.last) (times_of found.multiple) → IsSmallCap rows l entry u n
taken_answer rows l u entry best found n e h not_over not_dead is shared = subst (λ (w : Linear). IsSmallCap rows l entry w n) (sym is) (made not_over not_dead (first_best rows l entry best found e h not_over) shared)

pub found_fits : (rows : List Row) (l : Linear) (entry : List ℕ) (best : Option Found) (found : Found) → best ≡ Some found → IsBest (lins rows) l entry best → length rows < 2 ^ 32 → IsFront 8589934590 found.pick.front × (found.pick.last < 8589934590)
found_fits rows l entry best found e h lt =
    let k : IsBest (lins rows) l entry (Some found) = subst (λ (b : Option Found). IsBest (lins rows) l entry b) e h in
    picks_fit (lins rows) found.pick.front found.pick.last k.found.made.sum k.found.made.small (subst (λ (n : ℕ). n < 2 ^ 32) (sym (length-map rows (λ (r : Row). r.lin))) lt)
