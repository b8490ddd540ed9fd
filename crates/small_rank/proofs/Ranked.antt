-- Rankings by the levels that a search answers.
use Rattle.std.specs.Prelude.{◌≡◌, ℕ, zero, suc, ℤ, pos, negsuc, neg_ℤ, ◌*ℤ◌, ◌≤ℤ◌, ◌<ℤ◌, Bool, true, false, List, [], ◌∷◌, map, All, Option, Some, None, MatchOption, if◌then◌else◌}
use Rattle.std.specs.Ordering.{int_eq}
use Rattle.std.proofs.Common.{arith, refl, sym, subst, inl, inr}
use Rattle.std.proofs.lemmas.Bool.Decides.{Decides-int_eq}
use Rattle.std.proofs.lemmas.Int.{ints}
use Rattle.q128.specs.Fraction.{Fraction, whole, den_of, IsSame, IsAtMost, negative, times}
use Rattle.q128.specs.Laws.{IsNarrow}
use Rattle.q128.proofs.Field.{same_refl, same_sym, same_trans, times-same}
use Rattle.q128.proofs.Ring.{neg_ℤ-*ℤ}
use Rattle.q128.proofs.Ordered.{at_most_trans, are_ordered_field}
use Rattle.lin_rows.specs.declared.row.Transition.{Transition}
use Rattle.lin_rows.specs.Linear.{Linear}
use Rattle.lin_rows.specs.Rows.{lins}
use Rattle.lin_rows.specs.Transitions.{lin_times}
use Rattle.small_sums.specs.Sums.{Fits}
use Rattle.small_cert.specs.Order.{terms_from}
use Rattle.small_cert.specs.Small.{IsLeast}
use Rattle.small_cert.specs.Least.{halves}
use Rattle.small_levels.specs.declared.levels.Levels.{Levels}
use Rattle.small_levels.specs.declared.measure.Measure.{Measure}
use Rattle.small_levels.specs.declared.measure.Factor.{Factor}
use Rattle.small_levels.specs.declared.measure.Factor.TheVariants.{One, Two}
use Rattle.small_levels.specs.Numbers.{value_of}
use Rattle.small_levels.specs.Falls.{IsUnit, AreUnits}
use Rattle.small_levels.specs.Leveled.{fall_of, IsGate, IsDrop, MakesWhole, IsMeasure}
use Rattle.small_levels.specs.Measured.{AreLevels, HasNoLevels, times_in, IsMade, HasNoMeasure}
use Rattle.small_rank.specs.declared.functions.Found.{Found}
use Rattle.small_rank.specs.Ranking.{IsFunction, IsRanking}
use Rattle.small_rank.specs.inside.Search.{HasNoRankingBy, IsFoundBy}
use Rattle.small_rank.proofs.TermLists.{Units}

-- ---- functions have units
all_cons : {A : Type 0} (P : A → Type 0) (x : A) (xs : List A) → P x → All P xs → All P (x ∷ xs)
all_cons P x xs p ps zero d lt = p
all_cons P x xs p ps (suc k) d lt = ps k d (omega (arith, lt))

unit_by : (v : ℕ) (c : ℤ) (cs : List ℤ) (b : Bool) → int_eq c (pos 0) ≡ b → Units (if b then terms_from (suc v) cs else (v, c) ∷ terms_from (suc v) cs) → IsUnit c × Units (terms_from (suc v) cs)
unit_by v c cs true e all = (inl ((Decides-int_eq c (pos 0)).0 e), all)
unit_by v c cs false e all = (inr (all 0 (v, c) (omega arith)), λ k d lt. all (suc k) d (omega (arith, lt)))

units_of : (v : ℕ) (cs : List ℤ) → Units (terms_from v cs) → All IsUnit cs
units_of v [] all = λ k d lt. absurd (omega (arith, lt))
units_of v (c ∷ cs) all = let h = unit_by v c cs (int_eq c (pos 0)) refl all in all_cons IsUnit c cs h.0 (units_of (suc v) cs h.1)

pub function_units : (n : ℕ) (f : Linear) → IsFunction n f → AreUnits f
function_units n f h = units_of 0 f.coefficients h.units

-- ---- their multiples fit
narrow_unit : (factor : Factor) (c : ℤ) → IsUnit c → IsNarrow (pos (times_in factor) *ℤ c)
narrow_unit One c (inl e) = subst (λ (z : ℤ). IsNarrow (pos 1 *ℤ z)) (sym e) (omega arith)
narrow_unit One c (inr (inl e)) = subst (λ (z : ℤ). IsNarrow (pos 1 *ℤ z)) (sym e) (omega arith)
narrow_unit One c (inr (inr e)) = subst (λ (z : ℤ). IsNarrow (pos 1 *ℤ z)) (sym e) (omega arith)
narrow_unit Two c (inl e) = subst (λ (z : ℤ). IsNarrow (pos 2 *ℤ z)) (sym e) (omega arith)
narrow_unit Two c (inr (inl e)) = subst (λ (z : ℤ). IsNarrow (pos 2 *ℤ z)) (sym e) (omega arith)
narrow_unit Two c (inr (inr e)) = subst (λ (z : ℤ). IsNarrow (pos 2 *ℤ z)) (sym e) (omega arith)

multiples_fit : (factor : Factor) (cs : List ℤ) → All IsUnit cs → All IsNarrow (map (λ c. pos (times_in factor) *ℤ c) cs)
multiples_fit factor [] all = λ k d lt. absurd (omega (arith, lt))
multiples_fit factor (c ∷ cs) all = all_cons IsNarrow (pos (times_in factor) *ℤ c) (map (λ c. pos (times_in factor) *ℤ c) cs) (narrow_unit factor c (all 0 c (omega arith))) (multiples_fit factor cs (λ k d lt. all (suc k) d (omega (arith, lt))))

pub function_fits : (n : ℕ) (f : Linear) (factor : Factor) → IsFunction n f → Fits (lin_times (pos (times_in factor)) f)
function_fits n f factor h = record {
  coefficients = multiples_fit factor f.coefficients (function_units n f h);
  constant = narrow_unit factor f.constant (inl h.constant);
}

-- ---- levels are the only ones
same_most : (x y : Fraction) → IsSame x y → IsAtMost x y
same_most x y e = are_ordered_field.order.reflexive x y e

least_most : (rows : List Linear) (l : Linear) (x y : Fraction) → IsLeast rows l x → IsLeast rows l y → IsAtMost x y
least_most rows l x y h g = h.2.least y (g.0, g.1, g.2.reached)

negative_most : (x y : Fraction) → IsAtMost x y → IsAtMost (negative y) (negative x)
negative_most x y h = turned (x.num *ℤ den_of y) (y.num *ℤ den_of x) (neg_ℤ x.num *ℤ den_of y) (neg_ℤ y.num *ℤ den_of x) (neg_ℤ-*ℤ x.num (den_of y)) (neg_ℤ-*ℤ y.num (den_of x)) h
  where
    turned : (a b c d : ℤ) → c ≡ neg_ℤ a → d ≡ neg_ℤ b → a ≤ℤ b → d ≤ℤ c
    turned a b c d e k h = omega (arith, ints, e, k, h)

gate_most : (steps : List Transition) (f : Linear) (a b : Fraction) → IsGate steps f a → IsGate steps f b → IsAtMost a b
gate_most steps f a b g h =
    let t = g.one.0 in
    let x = g.one.3 in
    let y = h.each t g.one.1 g.one.2 in
    at_most_trans a x.0 b (same_most a x.0 (same_sym x.0 a x.2)) (at_most_trans x.0 y.0 b (least_most (lins t.rows) f x.0 y.0 x.1 y.1) y.2)

fall_most : (steps : List Transition) (f : Linear) (a b : Fraction) → IsDrop steps f a → IsDrop steps f b → IsAtMost a b
fall_most steps f a b g h =
    let t = h.one.0 in
    let y = h.one.3 in
    let x = g.each t h.one.1 h.one.2 in
    at_most_trans a (negative x.0) b x.2 (at_most_trans (negative x.0) (negative y.0) b (negative_most y.0 x.0 (least_most (lins t.rows) (fall_of f t) y.0 x.0 y.1 x.1)) (same_most (negative y.0) b (same_sym b (negative y.0) y.2)))

gate_only : (steps : List Transition) (f : Linear) (a b : Fraction) → IsGate steps f a → IsGate steps f b → IsSame a b
gate_only steps f a b g h = are_ordered_field.order.antisymmetric a b (gate_most steps f a b g h) (gate_most steps f b a h g)

fall_only : (steps : List Transition) (f : Linear) (a b : Fraction) → IsDrop steps f a → IsDrop steps f b → IsSame a b
fall_only steps f a b g h = are_ordered_field.order.antisymmetric a b (fall_most steps f a b g h) (fall_most steps f b a h g)

-- ---- equal fractions are the same levels
gate_same : (steps : List Transition) (f : Linear) (a b : Fraction) → IsSame a b → IsGate steps f a → IsGate steps f b
gate_same steps f a b e g = record {
  each = λ t there live. let x = g.each t there live in (x.0, x.1, at_most_trans x.0 a b x.2 (same_most a b e));
  one = (g.one.0, g.one.1, g.one.2, (g.one.3.0, g.one.3.1, same_trans g.one.3.0 a b g.one.3.2 e));
}

fall_same : (steps : List Transition) (f : Linear) (a b : Fraction) → IsSame a b → IsDrop steps f a → IsDrop steps f b
fall_same steps f a b e g = record {
  each = λ t there live. let x = g.each t there live in (x.0, x.1, at_most_trans b a (negative x.0) (same_most b a (same_sym a b e)) x.2);
  one = (g.one.0, g.one.1, g.one.2, (g.one.3.0, g.one.3.1, same_trans b a (negative g.one.3.0) (same_sym a b e) g.one.3.2));
}

times_moved : (s : ℕ) (c d : Fraction) (z : ℤ) → IsSame c d → IsSame (times (whole (pos s)) c) (whole z) → IsSame (times (whole (pos s)) d) (whole z)
times_moved s c d z e h = same_trans (times (whole (pos s)) d) (times (whole (pos s)) c) (whole z) (same_sym (times (whole (pos s)) c) (times (whole (pos s)) d) (times-same (whole (pos s)) (whole (pos s)) c d (same_refl (whole (pos s))) e)) h

whole_moved : (s : ℕ) (c d a b : Fraction) → IsSame c a → IsSame d b → MakesWhole s c d → MakesWhole s a b
whole_moved s c d a b e k h = record { positive = h.positive; whole_c = (h.whole_c.0, times_moved s c a h.whole_c.0 e h.whole_c.1); whole_d = (h.whole_d.0, times_moved s d b h.whole_d.0 k h.whole_d.1) }

positive_moved : (d b : Fraction) → IsSame d b → pos 0 <ℤ d.num → pos 0 <ℤ b.num
positive_moved d b e h = by b.num refl
  where
    low : (x : Fraction) → x.num ≤ℤ pos 0 → IsAtMost x (whole (pos 0))
    low x h = omega (arith, ints, h)

    back : (x : Fraction) → IsAtMost x (whole (pos 0)) → pos 0 <ℤ x.num → ⊥
    back x h k = omega (arith, ints, h, k)

    by : (z : ℤ) → b.num ≡ z → pos 0 <ℤ z
    by (pos zero) r = absurd (back d (at_most_trans d b (whole (pos 0)) (same_most d b e) (low b (omega (arith, ints, r)))) h)
    by (pos (suc n)) r = omega (arith, ints)
    by (negsuc n) r = absurd (back d (at_most_trans d b (whole (pos 0)) (same_most d b e) (low b (omega (arith, ints, r)))) h)

measure_same : (c d a b : Fraction) (s : ℕ) (x y : ℤ) → IsSame c a → IsSame d b → IsMeasure c d s x y → IsMeasure a b s x y
measure_same c d a b s x y e k h = record {
  falls = positive_moved d b k h.falls;
  factor = record { makes = whole_moved s c d a b e k h.factor.makes; least = λ r m. h.factor.least r (whole_moved r a b c d (same_sym c a e) (same_sym d b k) m) };
  is_c = times_moved s c a x e h.is_c;
  is_d = times_moved s d b y k h.is_d;
  fits_c = h.fits_c;
  fits_d = h.fits_d;
}

-- ---- rankings
pub unleveled : (steps : List Transition) (n : ℕ) (f : Linear) → HasNoLevels steps f → HasNoRankingBy steps n f
unleveled steps n f none c d s x y r = none c d r.gate r.fall

unmeasured : (steps : List Transition) (n : ℕ) (f : Linear) (l : Levels) → AreLevels steps f l → HasNoMeasure l → HasNoRankingBy steps n f
unmeasured steps n f l h none c d s x y r =
    none s x y (measure_same c d (halves (value_of l.gate)) (halves (value_of l.fall)) s x y (gate_only steps f c (halves (value_of l.gate)) r.gate h.gate) (fall_only steps f d (halves (value_of l.fall)) r.fall h.fall) r.measure)

ranked : (steps : List Transition) (n : ℕ) (f : Linear) (l : Levels) (m : Measure) → IsFunction n f → AreLevels steps f l → IsMade l m → IsRanking steps n f m.gate m.fall (times_in m.factor) m.c m.d
ranked steps n f l m function h made = record {
  function = function;
  gate = gate_same steps f (halves (value_of l.gate)) m.gate made.gate h.gate;
  fall = fall_same steps f (halves (value_of l.fall)) m.fall made.fall h.fall;
  measure = measure_same (halves (value_of l.gate)) (halves (value_of l.fall)) m.gate m.fall (times_in m.factor) m.c m.d made.gate made.fall made.measure;
  fits = function_fits n f m.factor function;
}

pub measured_answer : (steps : List Transition) (n : ℕ) (f : Linear) (l : Levels) (o : Option Found) → IsFunction n f → AreLevels steps f l
    → MatchOption o (HasNoMeasure l) (λ r. (r.function ≡ f) × IsMade l r.measure) → MatchOption o (HasNoRankingBy steps n f) (λ r. (r.function ≡ f) × IsFoundBy steps n r)
measured_answer steps n f l None function h none = unmeasured steps n f l h none
measured_answer steps n f l (Some r) function h made = (made.0, subst (λ (g : Linear). IsRanking steps n g r.measure.gate r.measure.fall (times_in r.measure.factor) r.measure.c r.measure.d) (sym made.0) (ranked steps n f l r.measure function h made.1))
