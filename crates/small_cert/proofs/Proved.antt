-- A small row follows from the rows by its multipliers.
use Rattle.std.specs.Prelude.{◌≡◌, ℕ, zero, suc, ◌<◌, ◌≤◌, ℤ, pos, ◌*ℤ◌, ◌≤ℤ◌, List, [], ◌∷◌, length, map, All}
use Rattle.std.proofs.Common.{arith, refl, sym, subst, ⊎_elim, inl, inr, get_or}
use Rattle.std.proofs.lemmas.Int.{ints}
use Rattle.q128.specs.Fraction.{Fraction, whole, IsSame, IsAtMost, IsQuotient, plus, times}
use Rattle.q128.proofs.Field.{same_refl, same_sym, same_trans, plus-same, times-same, times_plus, times_assoc, times_comm, times-zero, nonneg-same, nonneg-times}
use Rattle.q128.proofs.Ordered.{one-times, at_most_trans, are_ordered_field}
use Rattle.lin_rows.specs.Linear.{Linear, coefficient_of, row_at}
use Rattle.lin_rows.specs.Proving.{Multipliers, sum_coefficient, sum_constant, NotNegative, AreRowNumbers, IsSum, Reaches}
use Rattle.lin_rows.specs.Transitions.{lin_times}
use Rattle.lin_rows.specs.Rows.{longest_of}
use Rattle.lin_rows.proofs.Totals.{sum_is}
use Rattle.lin_rows.proofs.LongestRows.{longest_room}
use Rattle.small_sums.specs.Sums.{IsFactor}
use Rattle.small_cert.specs.Small.{IsMultiple, IsSmallBy, AreShared}

pub scaled_at : (k : ℤ) (cs : List ℤ) (v : ℕ) → get_or (map (λ c. k *ℤ c) cs) v (pos 0) ≡ k *ℤ get_or cs v (pos 0)
scaled_at k [] v = sym (nothing k)
  where
    nothing : (k : ℤ) → k *ℤ pos 0 ≡ pos 0
    nothing k = omega (arith, ints)
scaled_at k (c ∷ cs) zero = refl
scaled_at k (c ∷ cs) (suc v) = scaled_at k cs v

-- one more in front
all_behind : (Q : ℕ × Fraction → Type 0) (q : ℕ × Fraction) (n : Multipliers) → Q q → All Q n → All Q (q ∷ n)
all_behind Q q n head rest zero d lt = head
all_behind Q q n head rest (suc i) d lt = rest i d (omega (arith, lt))

-- what is shared, one multiplier after another
all_shared : (P Q : ℕ × Fraction → Type 0) (k : ℤ) → ((q p : ℕ × Fraction) → q.0 ≡ p.0 → IsQuotient q.1 p.1 (whole k) → P p → Q q) → (n m : Multipliers) → AreShared n m k → All P m → All Q n
all_shared P Q k step [] [] h all = λ i d lt. absurd (omega (arith, lt))
all_shared P Q k step [] (p ∷ m) h all = absurd h
all_shared P Q k step (q ∷ n) [] h all = absurd h
all_shared P Q k step (q ∷ n) (p ∷ m) h all =
    all_behind Q q n (step q p h.0.0 h.0.1 (all 0 p (omega arith))) (all_shared P Q k step n m h.1 (λ i d lt. all (suc i) d (omega (arith, lt))))

module _ (k : ℤ) (j : Fraction) (unit : IsSame (times j (whole k)) (whole (pos 1))) where
  -- q is a divided by k
  share_is : (q a : Fraction) → IsQuotient q a (whole k) → IsSame q (times j a)
  share_is q a h =
      let first : IsSame (times j a) (times j (times q (whole k))) = times-same j j a (times q (whole k)) (same_refl j) (same_sym (times q (whole k)) a h) in
      let turned : IsSame (times j (times q (whole k))) (times j (times (whole k) q)) = times-same j j (times q (whole k)) (times (whole k) q) (same_refl j) (times_comm q (whole k)) in
      let joined : IsSame (times j (times (whole k) q)) (times (times j (whole k)) q) = same_sym (times (times j (whole k)) q) (times j (times (whole k) q)) (times_assoc j (whole k) q) in
      let one : IsSame (times (times j (whole k)) q) (times (whole (pos 1)) q) = times-same (times j (whole k)) (whole (pos 1)) q q unit (same_refl q) in
      same_sym (times j a) q
      (same_trans (times j a) (times j (times q (whole k))) q first
      (same_trans (times j (times q (whole k))) (times j (times (whole k) q)) q turned
      (same_trans (times j (times (whole k) q)) (times (times j (whole k)) q) q joined
      (same_trans (times (times j (whole k)) q) (times (whole (pos 1)) q) q one (one-times q)))))

  share_term : (q a c : Fraction) → IsQuotient q a (whole k) → IsSame (times q c) (times j (times a c))
  share_term q a c h = same_trans (times q c) (times (times j a) c) (times j (times a c)) (times-same q (times j a) c c (share_is q a h) (same_refl c)) (times_assoc j a c)

  share_plus : (q a c x y : Fraction) → IsQuotient q a (whole k) → IsSame x (times j y) → IsSame (plus (times q c) x) (times j (plus (times a c) y))
  share_plus q a c x y h e =
      same_trans (plus (times q c) x) (plus (times j (times a c)) (times j y)) (times j (plus (times a c) y))
      (plus-same (times q c) (times j (times a c)) x (times j y) (share_term q a c h) e)
      (same_sym (times j (plus (times a c) y)) (plus (times j (times a c)) (times j y)) (times_plus j (times a c) y))

  shared_coefficient : (rows : List Linear) (n m : Multipliers) (v : ℕ) → AreShared n m k → IsSame (sum_coefficient rows n v) (times j (sum_coefficient rows m v))
  shared_coefficient rows [] [] v h = same_sym (times j (whole (pos 0))) (whole (pos 0)) (times-zero j)
  shared_coefficient rows [] (p ∷ m) v h = absurd h
  shared_coefficient rows (q ∷ n) [] v h = absurd h
  shared_coefficient rows (q ∷ n) (p ∷ m) v h =
      subst (λ (i : ℕ). IsSame (plus (times q.1 (whole (coefficient_of (row_at rows i) v))) (sum_coefficient rows n v)) (times j (plus (times p.1 (whole (coefficient_of (row_at rows p.0) v))) (sum_coefficient rows m v)))) (sym h.0.0)
      (share_plus q.1 p.1 (whole (coefficient_of (row_at rows p.0) v)) (sum_coefficient rows n v) (sum_coefficient rows m v) h.0.1 (shared_coefficient rows n m v h.1))

  shared_constant : (rows : List Linear) (n m : Multipliers) → AreShared n m k → IsSame (sum_constant rows n) (times j (sum_constant rows m))
  shared_constant rows [] [] h = same_sym (times j (whole (pos 0))) (whole (pos 0)) (times-zero j)
  shared_constant rows [] (p ∷ m) h = absurd h
  shared_constant rows (q ∷ n) [] h = absurd h
  shared_constant rows (q ∷ n) (p ∷ m) h =
      subst (λ (i : ℕ). IsSame (plus (times q.1 (whole (row_at rows i).constant)) (sum_constant rows n)) (times j (plus (times p.1 (whole (row_at rows p.0).constant)) (sum_constant rows m)))) (sym h.0.0)
      (share_plus q.1 p.1 (whole (row_at rows p.0).constant) (sum_constant rows n) (sum_constant rows m) h.0.1 (shared_constant rows n m h.1))

  module _ (back : (z : ℤ) → IsSame (times j (whole (k *ℤ z))) (whole z)) (positive : pos 0 ≤ℤ j.num) (rows : List Linear) (l : Linear) (n m : Multipliers) (small : IsSmallBy rows l m k) (shared : AreShared n m k) where
    sum : IsSum rows m small.sum.coefficients small.sum.constant
    sum = sum_is rows (longest_of rows) m small.sum (longest_room rows (longest_of rows) refl) small.small.counts

    numbers : AreRowNumbers (length rows) n
    numbers = record { each = all_shared (λ (p : ℕ × Fraction). (0 < p.0) × (p.0 ≤ length rows)) (λ (p : ℕ × Fraction). (0 < p.0) × (p.0 ≤ length rows)) k (λ q p e h within. (subst (λ (i : ℕ). 0 < i) (sym e) within.0, subst (λ (i : ℕ). i ≤ length rows) (sym e) within.1)) n m shared small.small.numbers.each }

    factor_positive : (a : Fraction) → IsFactor a → pos 0 ≤ℤ a.num
    factor_positive a f = ⊎_elim (λ e. subst (λ (x : Fraction). pos 0 ≤ℤ x.num) (sym e) (omega (arith, ints))) (λ e. subst (λ (x : Fraction). pos 0 ≤ℤ x.num) (sym e) (omega (arith, ints))) f

    not_negative : NotNegative n
    not_negative = all_shared (λ (p : ℕ × Fraction). IsFactor p.1) (λ (p : ℕ × Fraction). pos 0 ≤ℤ p.1.num) k (λ q p e h f. nonneg-same (times j p.1) q.1 (same_sym q.1 (times j p.1) (share_is q.1 p.1 h)) (nonneg-times j p.1 positive (factor_positive p.1 f))) n m shared small.small.factors

    multiple_at : (v : ℕ) → coefficient_of (lin_times k l) v ≡ k *ℤ coefficient_of l v
    multiple_at v = scaled_at k l.coefficients v

    coefficient : (v : ℕ) → IsSame (sum_coefficient rows n v) (whole (coefficient_of l v))
    coefficient v =
        let given : IsSame (sum_coefficient rows m v) (whole (k *ℤ coefficient_of l v)) =
        subst (λ (z : ℤ). IsSame (sum_coefficient rows m v) (whole z)) (multiple_at v)
        (same_trans (sum_coefficient rows m v) (get_or small.sum.coefficients v (whole (pos 0))) (whole (coefficient_of (lin_times k l) v)) (same_sym (get_or small.sum.coefficients v (whole (pos 0))) (sum_coefficient rows m v) (sum.coefficient v)) (small.under.coefficients.each v)) in
        same_trans (sum_coefficient rows n v) (times j (sum_coefficient rows m v)) (whole (coefficient_of l v)) (shared_coefficient rows n m v shared)
        (same_trans (times j (sum_coefficient rows m v)) (times j (whole (k *ℤ coefficient_of l v))) (whole (coefficient_of l v)) (times-same j j (sum_coefficient rows m v) (whole (k *ℤ coefficient_of l v)) (same_refl j) given) (back (coefficient_of l v)))

    same_most : (x y : Fraction) → IsSame x y → IsAtMost x y
    same_most x y e = are_ordered_field.order.reflexive x y e

    constant : IsAtMost (sum_constant rows n) (whole l.constant)
    constant =
        let given : IsAtMost (sum_constant rows m) (whole (k *ℤ l.constant)) = at_most_trans (sum_constant rows m) small.sum.constant (whole (k *ℤ l.constant)) (same_most (sum_constant rows m) small.sum.constant (same_sym small.sum.constant (sum_constant rows m) sum.constant_is)) small.under.constant in
        let zero_most : IsAtMost (whole (pos 0)) j = (are_ordered_field.signs j).1 positive in
        let raised : IsAtMost (times (sum_constant rows m) j) (times (whole (k *ℤ l.constant)) j) = are_ordered_field.order.products (sum_constant rows m) (whole (k *ℤ l.constant)) j zero_most given in
        let left : IsAtMost (sum_constant rows n) (times (sum_constant rows m) j) = same_most (sum_constant rows n) (times (sum_constant rows m) j) (same_trans (sum_constant rows n) (times j (sum_constant rows m)) (times (sum_constant rows m) j) (shared_constant rows n m shared) (times_comm j (sum_constant rows m))) in
        let right : IsAtMost (times (whole (k *ℤ l.constant)) j) (whole l.constant) = same_most (times (whole (k *ℤ l.constant)) j) (whole l.constant) (same_trans (times (whole (k *ℤ l.constant)) j) (times j (whole (k *ℤ l.constant))) (whole l.constant) (times_comm (whole (k *ℤ l.constant)) j) (back l.constant)) in
        at_most_trans (sum_constant rows n) (times (sum_constant rows m) j) (whole l.constant) left (at_most_trans (times (sum_constant rows m) j) (times (whole (k *ℤ l.constant)) j) (whole l.constant) raised right)

    reaches : Reaches rows n l
    reaches = record { numbers = numbers; not_negative = not_negative; coefficients = coefficient; constant = constant }

pub small_reaches : (rows : List Linear) (l : Linear) (n m : Multipliers) (k : ℤ) → IsSmallBy rows l m k → AreShared n m k → Reaches rows n l
small_reaches rows l n m k small shared = by small.multiple
  where
    one_back : (z : ℤ) → IsSame (times (whole (pos 1)) (whole (pos 1 *ℤ z))) (whole z)
    one_back z = omega (arith, ints)

    half_back : (z : ℤ) → IsSame (times (record { num = pos 1; den_less_one = 1 }) (whole (pos 2 *ℤ z))) (whole z)
    half_back z = omega (arith, ints)

    by : IsMultiple k → Reaches rows n l
    by (inl e) = reaches (pos 1) (whole (pos 1)) refl one_back (omega (arith, ints)) rows l n m (subst (λ (x : ℤ). IsSmallBy rows l m x) e small) (subst (λ (x : ℤ). AreShared n m x) e shared)
    by (inr e) = reaches (pos 2) (record { num = pos 1; den_less_one = 1 }) refl half_back (omega (arith, ints)) rows l n m (subst (λ (x : ℤ). IsSmallBy rows l m x) e small) (subst (λ (x : ℤ). AreShared n m x) e shared)
