-- Sums of rows by multipliers that are shared by a multiple.
use Rattle.std.specs.Prelude.{◌≡◌, ℕ, zero, suc, ◌+◌, ◌*◌, ℤ, pos, ◌*ℤ◌, ◌≤ℤ◌, List, [], ◌∷◌, All}
use Rattle.std.proofs.Common.{arith, sym, subst, ◌∙◌, inl, inr}
use Rattle.std.proofs.lemmas.Int.{ints}
use Rattle.std.proofs.Math.IntN.{*ℤ_comm}
use Rattle.q128.specs.Fraction.{Fraction, whole, den_of, IsSame, IsAtMost, IsQuotient, plus, times}
use Rattle.q128.proofs.Ring.{*ℤ_assoc}
use Rattle.q128.proofs.Field.{same_refl, same_sym, same_trans, plus-same, times-same, times_plus, times_assoc, times_comm, times-zero, nonneg-same}
use Rattle.lin_rows.specs.Linear.{Linear, coefficient_of, row_at}
use Rattle.lin_rows.specs.Proving.{Multipliers, sum_coefficient, sum_constant}
use Rattle.small_sums.specs.Sums.{IsFactor}
use Rattle.small_cert.specs.Small.{IsMultiple, AreShared}
use Rattle.node_certificates.proofs.Levels.{factor_positive, cancelled}

-- ---- one multiplier after another
all_behind : (Q : ℕ × Fraction → Type 0) (q : ℕ × Fraction) (n : Multipliers) → Q q → All Q n → All Q (q ∷ n)
all_behind Q q n head rest zero d lt = head
all_behind Q q n head rest (suc i) d lt = rest i d (omega (arith, lt))

pub all_shared : (P Q : ℕ × Fraction → Type 0) (k : ℤ) → ((q p : ℕ × Fraction) → q.0 ≡ p.0 → IsQuotient q.1 p.1 (whole k) → P p → Q q) → (n m : Multipliers) → AreShared n m k → All P m → All Q n
all_shared P Q k step [] [] h all = λ i d lt. absurd (omega (arith, lt))
all_shared P Q k step [] (p ∷ m) h all = absurd h
all_shared P Q k step (q ∷ n) [] h all = absurd h
all_shared P Q k step (q ∷ n) (p ∷ m) h all =
    all_behind Q q n (step q p h.0.0 h.0.1 (all 0 p (omega arith))) (all_shared P Q k step n m h.1 (λ i d lt. all (suc i) d (omega (arith, lt))))

-- k * (q * c + x) is a * c + y
term_shared : (k : ℤ) (q a c x y : Fraction) → IsQuotient q a (whole k) → IsSame (times (whole k) x) y → IsSame (times (whole k) (plus (times q c) x)) (plus (times a c) y)
term_shared k q a c x y h e =
    let w = whole k in
    let turned : IsSame (times w q) a = same_trans (times w q) (times q w) a (times_comm w q) h in
    let first : IsSame (times w (times q c)) (times a c) = same_trans (times w (times q c)) (times (times w q) c) (times a c) (same_sym (times (times w q) c) (times w (times q c)) (times_assoc w q c)) (times-same (times w q) a c c turned (same_refl c)) in
    same_trans (times w (plus (times q c) x)) (plus (times w (times q c)) (times w x)) (plus (times a c) y) (times_plus w (times q c) x)
    (plus-same (times w (times q c)) (times a c) (times w x) y first e)

pub shared_coefficient : (k : ℤ) (rows : List Linear) (n m : Multipliers) (v : ℕ) → AreShared n m k → IsSame (times (whole k) (sum_coefficient rows n v)) (sum_coefficient rows m v)
shared_coefficient k rows [] [] v h = times-zero (whole k)
shared_coefficient k rows [] (p ∷ m) v h = absurd h
shared_coefficient k rows (q ∷ n) [] v h = absurd h
shared_coefficient k rows (q ∷ n) (p ∷ m) v h =
    subst (λ (i : ℕ). IsSame (times (whole k) (plus (times q.1 (whole (coefficient_of (row_at rows i) v))) (sum_coefficient rows n v))) (plus (times p.1 (whole (coefficient_of (row_at rows p.0) v))) (sum_coefficient rows m v))) (sym h.0.0)
    (term_shared k q.1 p.1 (whole (coefficient_of (row_at rows p.0) v)) (sum_coefficient rows n v) (sum_coefficient rows m v) h.0.1 (shared_coefficient k rows n m v h.1))

pub shared_constant : (k : ℤ) (rows : List Linear) (n m : Multipliers) → AreShared n m k → IsSame (times (whole k) (sum_constant rows n)) (sum_constant rows m)
shared_constant k rows [] [] h = times-zero (whole k)
shared_constant k rows [] (p ∷ m) h = absurd h
shared_constant k rows (q ∷ n) [] h = absurd h
shared_constant k rows (q ∷ n) (p ∷ m) h =
    subst (λ (i : ℕ). IsSame (times (whole k) (plus (times q.1 (whole (row_at rows i).constant)) (sum_constant rows n))) (plus (times p.1 (whole (row_at rows p.0).constant)) (sum_constant rows m))) (sym h.0.0)
    (term_shared k q.1 p.1 (whole (row_at rows p.0).constant) (sum_constant rows n) (sum_constant rows m) h.0.1 (shared_constant k rows n m h.1))

-- ---- without the multiple
one_or_two : (k a b : ℤ) → IsMultiple k → k *ℤ a ≡ k *ℤ b → a ≡ b
one_or_two k a b (inl e) h = let g : pos 1 *ℤ a ≡ pos 1 *ℤ b = subst (λ (z : ℤ). z *ℤ a ≡ z *ℤ b) e h in omega (arith, ints, g)
one_or_two k a b (inr e) h = let g : pos 2 *ℤ a ≡ pos 2 *ℤ b = subst (λ (z : ℤ). z *ℤ a ≡ z *ℤ b) e h in omega (arith, ints, g)

at_most_shared : (k a b : ℤ) → IsMultiple k → (k *ℤ a) ≤ℤ (k *ℤ b) → a ≤ℤ b
at_most_shared k a b (inl e) h = let g : (pos 1 *ℤ a) ≤ℤ (pos 1 *ℤ b) = subst (λ (z : ℤ). (z *ℤ a) ≤ℤ (z *ℤ b)) e h in omega (arith, ints, g)
at_most_shared k a b (inr e) h = let g : (pos 2 *ℤ a) ≤ℤ (pos 2 *ℤ b) = subst (λ (z : ℤ). (z *ℤ a) ≤ℤ (z *ℤ b)) e h in omega (arith, ints, g)

same_places : (d : ℕ) → 0 * suc d + d ≡ d
same_places d = omega arith

pub unshared_same : (k : ℤ) (s : Fraction) (z : ℤ) → IsMultiple k → IsSame (times (whole k) s) (whole (k *ℤ z)) → IsSame s (whole z)
unshared_same k s z is e =
    let plain : (k *ℤ s.num) *ℤ pos 1 ≡ (k *ℤ z) *ℤ den_of s = subst (λ (d : ℕ). (k *ℤ s.num) *ℤ pos 1 ≡ (k *ℤ z) *ℤ pos (suc d)) (same_places s.den_less_one) e in
    one_or_two k (s.num *ℤ pos 1) (z *ℤ den_of s) is (sym (*ℤ_assoc k s.num (pos 1)) ∙ plain ∙ *ℤ_assoc k z (den_of s))

pub unshared_most : (k : ℤ) (s : Fraction) (z : ℤ) → IsMultiple k → IsAtMost (times (whole k) s) (whole (k *ℤ z)) → IsAtMost s (whole z)
unshared_most k s z is e =
    let plain : ((k *ℤ s.num) *ℤ pos 1) ≤ℤ ((k *ℤ z) *ℤ den_of s) = subst (λ (d : ℕ). ((k *ℤ s.num) *ℤ pos 1) ≤ℤ ((k *ℤ z) *ℤ pos (suc d))) (same_places s.den_less_one) e in
    at_most_shared k (s.num *ℤ pos 1) (z *ℤ den_of s) is (subst (λ (y : ℤ). (k *ℤ (s.num *ℤ pos 1)) ≤ℤ y) (*ℤ_assoc k z (den_of s)) (subst (λ (x : ℤ). x ≤ℤ ((k *ℤ z) *ℤ den_of s)) (*ℤ_assoc k s.num (pos 1)) plain))

-- a factor that is shared by k isn't negative
pub not_negative_shared : (k : ℤ) (q a : Fraction) → IsMultiple k → IsQuotient q a (whole k) → IsFactor a → pos 0 ≤ℤ q.num
not_negative_shared k q a is h f =
    cancelled k q.num is (subst (λ (z : ℤ). pos 0 ≤ℤ z) (*ℤ_comm q.num k) (nonneg-same a (times q (whole k)) (same_sym (times q (whole k)) a h) (factor_positive a f)))
