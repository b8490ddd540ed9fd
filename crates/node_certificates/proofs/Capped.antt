-- A small cap is a cap.
use Rattle.std.specs.Prelude.{◌≡◌, ℕ, zero, suc, ◌<◌, ◌≤◌, ℤ, pos, negsuc, ◌+ℤ◌, ◌-ℤ◌, ◌*ℤ◌, ◌≤ℤ◌, ◌<ℤ◌, List, [], ◌∷◌, map, length, Option, Some, None, Result, Ok, Err, IfOk, MatchOption}
use Rattle.std.specs.declared.alloc.AllocError.{AllocError}
use Rattle.std.proofs.Common.{arith, refl, sym, subst, inl, inr, get_or}
use Rattle.std.proofs.lemmas.Int.{ints}
use Rattle.q128.specs.Fraction.{Fraction, whole, IsSame, IsAtMost, times}
use Rattle.q128.proofs.Field.{same_sym, same_trans}
use Rattle.q128.proofs.Ordered.{at_most_trans, are_ordered_field}
use Rattle.lin_rows.specs.Linear.{Linear, coefficient_of, nothing}
use Rattle.lin_rows.specs.Proving.{Multipliers, sum_coefficient, sum_constant, AreRowNumbers, IsSum, Reaches, Contradicts}
use Rattle.lin_rows.specs.Rows.{longest_of}
use Rattle.lin_rows.specs.Transitions.{lin_times, places_sum}
use Rattle.lin_rows.proofs.LongestRows.{longest_room}
use Rattle.lin_rows.proofs.Totals.{sum_is}
use Rattle.small_sums.specs.Sums.{IsFactor}
use Rattle.small_cert.specs.Small.{IsSmallBy, AreShared, falsehood}
use Rattle.small_cert.proofs.Proved.{scaled_at, small_reaches}
use Rattle.small_caps.specs.Caps.{IsOver, excess_of, IsCapBy, IsSmallCap, own, dead, made, HasNoCap}
use Rattle.small_caps.specs.declared.cap.SmallCap.{SmallCap}
use Rattle.rankings.specs.Caps.{IsCap}
use Rattle.node_certificates.proofs.Shares.{all_shared, shared_coefficient, shared_constant, unshared_same, unshared_most, not_negative_shared}

-- ---- l - l
taken_away : (cs : List ℤ) (v : ℕ) → get_or (places_sum cs (map (λ c. negsuc 0 *ℤ c) cs)) v (pos 0) ≡ pos 0
taken_away [] v = refl
taken_away (c ∷ cs) zero = none c
  where
    none : (c : ℤ) → c +ℤ negsuc 0 *ℤ c ≡ pos 0
    none c = omega (arith, ints)
taken_away (c ∷ cs) (suc v) = taken_away cs v

zero_constant : (c : ℤ) → c +ℤ negsuc 0 *ℤ c ≡ pos 0
zero_constant c = omega (arith, ints)

no_excess : (l : Linear) (rows : List Linear) → Reaches rows [] (excess_of l l)
no_excess l rows = record {
  numbers = record { each = λ i d lt. absurd (omega (arith, lt)) };
  not_negative = λ i d lt. absurd (omega (arith, lt));
  coefficients = λ v. subst (λ (z : ℤ). IsSame (whole (pos 0)) (whole z)) (sym (taken_away l.coefficients v)) refl;
  constant = subst (λ (z : ℤ). IsAtMost (whole (pos 0)) (whole z)) (sym (zero_constant l.constant)) (omega (arith, ints));
}

own_cap : (rows : List Linear) (entry : List ℕ) (l : Linear) → IsOver entry l → IsCap rows entry l l 1 []
own_cap rows entry l over = record { over = over; positive = omega arith; proved = inl (no_excess l rows) }

-- ---- rows that contradict each other
below_zero : (x : Fraction) → IsAtMost x (whole (negsuc 0)) → x.num <ℤ pos 0
below_zero x h = omega (arith, ints, h)

pub false_contradicts : (rows : List Linear) (n : Multipliers) → Reaches rows n falsehood → Contradicts rows n
false_contradicts rows n r = record {
  numbers = r.numbers;
  not_negative = r.not_negative;
  coefficients = r.coefficients;
  constant = below_zero (sum_constant rows n) r.constant;
}

dead_cap : (rows : List Linear) (entry : List ℕ) (l : Linear) (n m : Multipliers) (k : ℤ) → IsSmallBy rows falsehood m k → AreShared n m k → IsCap rows entry l nothing 1 n
dead_cap rows entry l n m k small shared = record {
  over = record { each = λ v used. absurd (used refl) };
  positive = omega arith;
  proved = inr (false_contradicts rows n (small_reaches rows falsehood n m k small shared));
}

-- ---- sums
excess_constant : (u l : ℤ) → u -ℤ l ≡ u +ℤ negsuc 0 *ℤ l
excess_constant u l = omega (arith, ints)

module _ (rows : List Linear) (l : Linear) (entry : List ℕ) (u : Linear) (n m : Multipliers) (k : ℤ) (is : IsCapBy rows l entry u m k) (shared : AreShared n m k) where
  sum : IsSum rows m is.sum.coefficients is.sum.constant
  sum = sum_is rows (longest_of rows) m is.sum (longest_room rows (longest_of rows) refl) is.small.counts

  numbers : AreRowNumbers (length rows) n
  numbers = record { each = all_shared (λ (p : ℕ × Fraction). (0 < p.0) × (p.0 ≤ length rows)) (λ (p : ℕ × Fraction). (0 < p.0) × (p.0 ≤ length rows)) k (λ q p e h within. (subst (λ (i : ℕ). 0 < i) (sym e) within.0, subst (λ (i : ℕ). i ≤ length rows) (sym e) within.1)) n m shared is.small.numbers.each }

  coefficient : (v : ℕ) → IsSame (sum_coefficient rows n v) (whole (coefficient_of (excess_of u l) v))
  coefficient v =
      let made = get_or is.sum.coefficients v (whole (pos 0)) in
      let S = times (whole k) (sum_coefficient rows n v) in
      let given : IsSame S (whole (k *ℤ coefficient_of (excess_of u l) v)) =
      subst (λ (z : ℤ). IsSame S (whole z)) (scaled_at k (excess_of u l).coefficients v)
      (same_trans S (sum_coefficient rows m v) (whole (coefficient_of (lin_times k (excess_of u l)) v)) (shared_coefficient k rows n m v shared)
      (same_trans (sum_coefficient rows m v) made (whole (coefficient_of (lin_times k (excess_of u l)) v)) (same_sym made (sum_coefficient rows m v) (sum.coefficient v)) (is.cap.same.each v))) in
      unshared_same k (sum_coefficient rows n v) (coefficient_of (excess_of u l) v) is.multiple given

  constant : IsAtMost (sum_constant rows n) (whole (excess_of u l).constant)
  constant =
      let S = times (whole k) (sum_constant rows n) in
      let most = are_ordered_field.order.reflexive in
      let made : IsAtMost S is.sum.constant = most S is.sum.constant (same_trans S (sum_constant rows m) is.sum.constant (shared_constant k rows n m shared) (same_sym is.sum.constant (sum_constant rows m) sum.constant_is)) in
      let under : IsAtMost S (whole (k *ℤ (u.constant -ℤ l.constant))) = at_most_trans S is.sum.constant (whole (k *ℤ (u.constant -ℤ l.constant))) made is.cap.under in
      let shown : IsAtMost (sum_constant rows n) (whole (u.constant -ℤ l.constant)) = unshared_most k (sum_constant rows n) (u.constant -ℤ l.constant) is.multiple under in
      subst (λ (z : ℤ). IsAtMost (sum_constant rows n) (whole z)) (excess_constant u.constant l.constant) shown

  made_cap : IsCap rows entry l u 1 n
  made_cap = record {
    over = is.cap.over;
    positive = omega arith;
    proved = inl (record {
      numbers = numbers;
      not_negative = all_shared (λ (p : ℕ × Fraction). IsFactor p.1) (λ (p : ℕ × Fraction). pos 0 ≤ℤ p.1.num) k (λ q p e h f. not_negative_shared k q.1 p.1 is.multiple h f) n m shared is.small.factors;
      coefficients = coefficient;
      constant = constant;
    });
  }

pub small_is_cap : (rows : List Linear) (entry : List ℕ) (l u : Linear) (n : Multipliers) → IsSmallCap rows l entry u n → IsCap rows entry l u 1 n
small_is_cap rows entry l u n (own over) = own_cap rows entry l over
small_is_cap rows entry l u n (dead {m = m} {k = k} apart small shared) = dead_cap rows entry l n m k small shared
small_is_cap rows entry l u n (made {m = m} {k = k} apart lives first shared) = made_cap rows l entry u n m k first.made shared

pub answer_capped : (rows : List Linear) (entry : List ℕ) (l : Linear) (res : Result (Option SmallCap) AllocError)
    → IfOk res (λ answer. MatchOption answer (HasNoCap rows l entry) (λ c. IsSmallCap rows l entry c.cap c.mults)) → IfOk res (λ answer. MatchOption answer (Unit {0}) (λ c. IsCap rows entry l c.cap 1 c.mults))
answer_capped rows entry l (Err e) is = tt
answer_capped rows entry l (Ok None) is = tt
answer_capped rows entry l (Ok (Some c)) is = small_is_cap rows entry l c.cap c.mults is
