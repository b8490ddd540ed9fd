-- What levels of a function say at points of the rows.
use Rattle.std.specs.Prelude.{ℕ, ℤ, pos, ◌*ℤ◌, ◌≤ℤ◌, List}
use Rattle.std.proofs.Common.{arith, refl, sym, subst, inl, inr, get_or}
use Rattle.std.proofs.lemmas.Int.{ints}
use Rattle.q128.specs.Fraction.{Fraction, whole, IsSame, IsAtMost, plus, times}
use Rattle.q128.proofs.Field.{same_refl, same_sym, same_trans, plus-same, times-same, times_plus, plus_times, times_assoc, plus_assoc, nonneg-same, nonneg-times, nonneg-raised}
use Rattle.lin_rows.specs.Linear.{Linear, coefficient_of}
use Rattle.lin_rows.specs.Points.{dot, value_at, RowsHoldAt}
use Rattle.lin_rows.specs.Proving.{Multipliers, sum_coefficient, sum_constant, IsSum}
use Rattle.lin_rows.specs.Rows.{longest_of}
use Rattle.lin_rows.specs.Transitions.{lin_times, lin_constant, lin_plus}
use Rattle.lin_rows.proofs.Dots.{dot-same, dot-times}
use Rattle.lin_rows.proofs.Expressions.{value_at-plus, value_at-times, value_at-constant}
use Rattle.lin_rows.proofs.LongestRows.{longest_room}
use Rattle.lin_rows.proofs.Sound.{sum_not_negative}
use Rattle.lin_rows.proofs.Totals.{sum_is}
use Rattle.small_sums.specs.Sums.{IsFactor}
use Rattle.small_cert.specs.Small.{IsMultiple, IsReachedBy}
use Rattle.small_cert.proofs.Proved.{scaled_at}
use Rattle.rankings.specs.Rankings.{raised}

-- ---- a constant that is reached
pub factor_positive : (a : Fraction) → IsFactor a → pos 0 ≤ℤ a.num
factor_positive a (inl e) = subst (λ (x : Fraction). pos 0 ≤ℤ x.num) (sym e) (omega (arith, ints))
factor_positive a (inr e) = subst (λ (x : Fraction). pos 0 ≤ℤ x.num) (sym e) (omega (arith, ints))

pub cancelled : (k n : ℤ) → IsMultiple k → pos 0 ≤ℤ (k *ℤ n) → pos 0 ≤ℤ n
cancelled k n (inl e) h = let low : pos 0 ≤ℤ (pos 1 *ℤ n) = subst (λ (z : ℤ). pos 0 ≤ℤ (z *ℤ n)) e h in omega (arith, ints, low)
cancelled k n (inr e) h = let low : pos 0 ≤ℤ (pos 2 *ℤ n) = subst (λ (z : ℤ). pos 0 ≤ℤ (z *ℤ n)) e h in omega (arith, ints, low)

pub reached_at : (rows : List Linear) (f : Linear) (x : Fraction) (m : Multipliers) (k : ℤ) (t : Fraction) (v : List Fraction) → IsReachedBy rows f x m k → RowsHoldAt rows t v → pos 0 ≤ℤ (plus (value_at f t v) (times x t)).num
reached_at rows f x m k t v h r =
    let sum : IsSum rows m h.sum.coefficients h.sum.constant = sum_is rows (longest_of rows) m h.sum (longest_room rows (longest_of rows) refl) h.small.counts in
    let A = λ (i : ℕ). whole (coefficient_of f i) in
    let q = whole k in
    let D = dot (sum_coefficient rows m) v in
    let F = dot A v in
    let K = sum_constant rows m in
    let C = whole f.constant in
    let T = times (plus C x) t in
    let each : (i : ℕ) → IsSame (sum_coefficient rows m i) (times q (A i)) = λ i.
    let made = get_or h.sum.coefficients i (whole (pos 0)) in
    subst (λ (z : ℤ). IsSame (sum_coefficient rows m i) (whole z)) (scaled_at k f.coefficients i)
    (same_trans (sum_coefficient rows m i) made (whole (coefficient_of (lin_times k f) i)) (same_sym made (sum_coefficient rows m i) (sum.coefficient i)) (h.same.each i)) in
    let dots : IsSame D (times q F) = same_trans D (dot (λ i. times q (A i)) v) (times q F) (dot-same (sum_coefficient rows m) (λ i. times q (A i)) v each) (dot-times q A v) in
    let constant : IsSame K (times q (plus C x)) = same_trans K h.sum.constant (times q (plus C x)) (same_sym h.sum.constant K sum.constant_is) h.constant in
    let tail : IsSame (times K t) (times q T) = same_trans (times K t) (times (times q (plus C x)) t) (times q T) (times-same K (times q (plus C x)) t t constant (same_refl t)) (times_assoc q (plus C x) t) in
    let all : IsSame (plus D (times K t)) (times q (plus F T)) =
    same_trans (plus D (times K t)) (plus (times q F) (times q T)) (times q (plus F T)) (plus-same D (times q F) (times K t) (times q T) dots tail)
    (same_sym (times q (plus F T)) (plus (times q F) (times q T)) (times_plus q F T)) in
    let whole_low = sum_not_negative rows m t v h.small.numbers (λ i d lt. factor_positive (get_or m i d).1 (h.small.factors i d lt)) r in
    let low : pos 0 ≤ℤ (plus F T).num = cancelled k (plus F T).num h.multiple (nonneg-same (plus D (times K t)) (times q (plus F T)) all whole_low) in
    let inner : IsSame (plus F T) (plus (plus F (times C t)) (times x t)) =
    same_trans (plus F T) (plus F (plus (times C t) (times x t))) (plus (plus F (times C t)) (times x t))
    (plus-same F F T (plus (times C t) (times x t)) (same_refl F) (plus_times C x t))
    (same_sym (plus (plus F (times C t)) (times x t)) (plus F (plus (times C t) (times x t))) (plus_assoc F (times C t) (times x t))) in
    nonneg-same (plus F T) (plus (plus F (times C t)) (times x t)) inner low

-- ---- a greater constant, times s
module _ (s : ℤ) (positive : pos 0 ≤ℤ s) (f : Linear) (t : Fraction) (later : pos 0 ≤ℤ t.num) where
  pub gate_at : (v : List Fraction) (x c : Fraction) (z : ℤ) → IsAtMost x c → IsSame (times (whole s) c) (whole z) → pos 0 ≤ℤ (plus (value_at f t v) (times x t)).num
      → pos 0 ≤ℤ (value_at (raised (lin_times s f) z) t v).num
  gate_at v x c z most made h =
      let S = whole s in
      let F = value_at f t v in
      let C = times c t in
      let Z = times (whole z) t in
      let low = nonneg-times S (plus F C) positive (nonneg-raised F x c t most later h) in
      let first : IsSame (times S F) (value_at (lin_times s f) t v) = same_sym (value_at (lin_times s f) t v) (times S F) (value_at-times s f t v) in
      let last : IsSame (times S C) (value_at (lin_constant z) t v) =
      same_trans (times S C) Z (value_at (lin_constant z) t v)
      (same_trans (times S C) (times (times S c) t) Z (same_sym (times (times S c) t) (times S C) (times_assoc S c t)) (times-same (times S c) (whole z) t t made (same_refl t)))
      (same_sym (value_at (lin_constant z) t v) Z (value_at-constant z t v)) in
      let sum = plus (value_at (lin_times s f) t v) (value_at (lin_constant z) t v) in
      let all : IsSame (times S (plus F C)) (value_at (raised (lin_times s f) z) t v) =
      same_trans (times S (plus F C)) sum (value_at (raised (lin_times s f) z) t v)
      (same_trans (times S (plus F C)) (plus (times S F) (times S C)) sum (times_plus S F C) (plus-same (times S F) (value_at (lin_times s f) t v) (times S C) (value_at (lin_constant z) t v) first last))
      (same_sym (value_at (lin_plus (lin_times s f) (lin_constant z)) t v) sum (value_at-plus (lin_times s f) (lin_constant z) t v)) in
      nonneg-same (times S (plus F C)) (value_at (raised (lin_times s f) z) t v) all low
