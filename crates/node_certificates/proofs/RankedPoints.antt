-- A small ranking is a ranking.
use Rattle.std.specs.Prelude.{◌≡◌, ◌⊎◌, ℕ, zero, suc, ◌<◌, ◌≤◌, ◌*◌, ℤ, pos, negsuc, ◌*ℤ◌, ◌≤ℤ◌, ◌<ℤ◌, List, [], ◌∷◌, replicate, length, All, Option, Some, None, Result, Ok, Err, IfOk, MatchOption}
use Rattle.std.specs.declared.alloc.AllocError.{AllocError}
use Rattle.std.proofs.Common.{arith, refl, sym, ap, ◌∙◌, subst, inl, inr, get_or}
use Rattle.std.proofs.lemmas.Int.{ints}
use Rattle.q128.specs.Fraction.{Fraction, whole, IsSame, times}
use Rattle.lin_rows.specs.declared.point.Point.{Point}
use Rattle.lin_rows.specs.declared.row.Transition.{Transition}
use Rattle.lin_rows.specs.Linear.{Linear}
use Rattle.lin_rows.specs.Rows.{lins}
use Rattle.lin_rows.specs.Transitions.{lin_times}
use Rattle.small_cert.proofs.Proved.{scaled_at}
use Rattle.small_levels.specs.Leveled as small
use Rattle.small_levels.specs.Measured.{times_in}
use Rattle.small_rank.specs.declared.ranking.SmallRank.{SmallRank}
use Rattle.small_rank.specs.Ranking.{zero_of, IsFunction, IsFirstRanking}
use Rattle.small_rank.specs.Answer.{sizes_of, IsDeadRank, IsLiveRank, IsSmallRank, HasNoSmallRank}
use Rattle.rankings.specs.Entailment.{IsPointOf}
use Rattle.rankings.specs.Rankings.{IsOverSizes, IsRanking}
use Rattle.rankings.proofs.Following.{small_contradicts}
use Rattle.node_certificates.proofs.Levels.{reached_at, gate_at}
use Rattle.node_certificates.proofs.Falls.{fall_at}

-- a step with a point isn't dead by a small sum
pub live_at : (step : Transition) (p : Point) → IsPointOf (lins step.rows) p → small.IsLive step
live_at step p is = record { live = λ s. (small_contradicts (lins step.rows) s).none p.t p.v is.positive is.holds }

not_below : (z : ℤ) → pos 0 <ℤ z → pos 0 ≤ℤ z
not_below z h = omega (arith, ints, h)

-- ---- the function
past_end : (cs : List ℤ) (v : ℕ) → length cs ≤ v → get_or cs v (pos 0) ≡ pos 0
past_end [] v le = refl
past_end (c ∷ cs) zero le = absurd (omega (arith, le))
past_end (c ∷ cs) (suc v) le = past_end cs v (omega (arith, le))

zero_at : (n v : ℕ) → get_or (replicate n (pos 0)) v (pos 0) ≡ pos 0
zero_at zero v = refl
zero_at (suc n) zero = refl
zero_at (suc n) (suc v) = zero_at n v

times_zero : (s : ℤ) → s *ℤ pos 0 ≡ pos 0
times_zero s = omega (arith, ints)

zero_over : (n : ℕ) → IsOverSizes n (zero_of n)
zero_over n = record { variables = λ v le. zero_at n v; constant = refl }

function_over : (n : ℕ) (s : ℤ) (f : Linear) → IsFunction n f → IsOverSizes n (lin_times s f)
function_over n s f is = record {
  variables = λ v le. scaled_at s f.coefficients v ∙ ap (λ (z : ℤ). s *ℤ z) (past_end f.coefficients v (omega (arith, le, is.sizes))) ∙ times_zero s;
  constant = ap (λ (z : ℤ). s *ℤ z) is.constant ∙ times_zero s;
}

-- ---- the drop
module _ (s : ℕ) (d : Fraction) (above : 0 < s) (falls : pos 0 <ℤ d.num) where
  product_above : (s : ℕ) (z : ℤ) → 0 < s → pos 0 <ℤ z → pos 1 ≤ℤ (pos s *ℤ z)
  product_above zero z a h = absurd (omega (arith, a))
  product_above (suc n) (pos zero) a h = absurd (omega (arith, ints, h))
  product_above (suc n) (pos (suc m)) a h = let e : 0 < suc n * suc m = omega arith in omega (arith, ints, e)
  product_above (suc n) (negsuc m) a h = absurd (omega (arith, ints, h))

  whole_above : (z : ℤ) → IsSame (times (whole (pos s)) d) (whole z) → pos 1 ≤ℤ z
  whole_above (pos zero) e = let low = product_above s d.num above falls in absurd (omega (arith, ints, low, e))
  whole_above (pos (suc n)) e = omega (arith, ints)
  whole_above (negsuc n) e = let low = product_above s d.num above falls in absurd (omega (arith, ints, low, e))

-- ---- rankings
dead_is_ranking : (steps : List Transition) (r : SmallRank) → IsDeadRank steps r → IsRanking (sizes_of steps) steps r.f r.c r.d
dead_is_ranking steps r is = record {
  over = subst (λ (f : Linear). IsOverSizes (sizes_of steps) f) (sym is.f) (zero_over (sizes_of steps));
  drop = subst (λ (d : ℤ). pos 1 ≤ℤ d) (sym is.d) (omega (arith, ints));
  not_negative = λ step p m point. absurd (is.dead step m (live_at step p point));
  falls = λ step p m point. absurd (is.dead step m (live_at step p point));
}

first_is_ranking : (steps : List Transition) (n : ℕ) (f : Linear) (g d : Fraction) (s : ℕ) (c e : ℤ) → IsFirstRanking steps n f g d s c e → IsRanking n steps (lin_times (pos s) f) c e
first_is_ranking steps n f g d s c e is =
    let r = is.ranking in
    let low : pos 0 ≤ℤ pos s = omega (arith, ints) in
    record {
      over = function_over n (pos s) f r.function;
      drop = whole_above s d r.measure.factor.makes.positive r.measure.falls e r.measure.is_d;
      not_negative = λ step p m point.
          let later = not_below p.t.num point.positive in
          let at = r.gate.each step m (live_at step p point) in
          record { not_negative = gate_at (pos s) low f p.t later p.v at.0 g c at.2 r.measure.is_c (reached_at (lins step.rows) f at.0 at.1.0 at.1.1 p.t p.v at.1.2.reached point.holds) };
      falls = λ step p m point.
          let later = not_below p.t.num point.positive in
          let at = r.fall.each step m (live_at step p point) in
          fall_at (pos s) f step.next p.t p.v at.0 d e low later at.2 r.measure.is_d (reached_at (lins step.rows) (small.fall_of f step) at.0 at.1.0 at.1.1 p.t p.v at.1.2.reached point.holds);
    }

pub small_is_ranking : (steps : List Transition) (r : SmallRank) → IsSmallRank steps r → IsRanking (sizes_of steps) steps r.f r.c r.d
small_is_ranking steps r is = by is.is
  where
    by : IsDeadRank steps r ⊎ IsLiveRank steps r → IsRanking (sizes_of steps) steps r.f r.c r.d
    by (inl h) = dead_is_ranking steps r h
    by (inr h) = subst (λ (f : Linear). IsRanking (sizes_of steps) steps f r.c r.d) (sym h.f) (first_is_ranking steps (sizes_of steps) r.function r.gate r.fall (times_in r.factor) r.c r.d h.first)

-- ---- over the sizes of a node
pub next_sizes : (n : ℕ) (steps : List Transition) → All (λ (t : Transition). length t.next ≡ n) steps → All (λ (t : Transition). length t.next ≡ sizes_of steps) steps
next_sizes n [] h = λ i d lt. absurd (omega (arith, lt))
next_sizes n (t ∷ steps) h = λ i d lt. h i d lt ∙ sym (h 0 t (omega arith))

pub ranked_over : (n : ℕ) (steps : List Transition) (f : Linear) (c d : ℤ) → All (λ (t : Transition). length t.next ≡ n) steps → IsRanking (sizes_of steps) steps f c d → IsRanking n steps f c d
ranked_over n [] f c d h r = record {
  over = record { variables = λ v le. r.over.variables v (omega arith); constant = r.over.constant };
  drop = r.drop;
  not_negative = r.not_negative;
  falls = r.falls;
}
ranked_over n (t ∷ steps) f c d h r = subst (λ (k : ℕ). IsRanking k (t ∷ steps) f c d) (h 0 t (omega arith)) r

pub answer_ranked : (n : ℕ) (steps : List Transition) (res : Result (Option SmallRank) AllocError) → All (λ (t : Transition). length t.next ≡ n) steps
    → IfOk res (λ answer. MatchOption answer (HasNoSmallRank steps) (IsSmallRank steps)) → IfOk res (λ answer. MatchOption answer (Unit {0}) (λ r. IsRanking n steps r.f r.c r.d))
answer_ranked n steps (Err e) h is = tt
answer_ranked n steps (Ok None) h is = tt
answer_ranked n steps (Ok (Some r)) h is = ranked_over n steps r.f r.c r.d h (small_is_ranking steps r is)
