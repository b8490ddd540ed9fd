-- Proving is sound.
use Rattle.std.specs.Prelude.{ℕ, zero, suc, ◌≡◌, ℤ, pos, ◌+ℤ◌, ◌*ℤ◌, ◌≤ℤ◌, ◌<ℤ◌, ◌*◌, ◌<◌, negsuc, List, [], ◌∷◌, All, length, ◌-◌, ◌≤◌}
use Rattle.std.proofs.Common.{arith, refl, sym, ap, ◌∙◌, ⊎_elim, get_or}
use Rattle.std.proofs.lemmas.Int.{ints}
use Rattle.q128.specs.Fraction.{Fraction, whole, IsSame, plus, times}
use Rattle.q128.proofs.Field.{same_trans, plus-same, times_assoc, times_plus, plus_times, zero-times, plus-zero, plus_swap, nonneg-same, nonneg-plus, nonneg-times, nonneg-raised, zero-plus}
use Rattle.lin_rows.specs.Linear.{Linear, nothing, coefficient_of, row_at}
use Rattle.lin_rows.specs.Points.{dot, value_at, HoldsAt, RowsHoldAt, whole_sum, whole_value, HoldsAtWhole}
use Rattle.lin_rows.specs.Proving.{Multipliers, AreRowNumbers, sum_coefficient, sum_constant, NotNegative}
use Rattle.lin_rows.specs.Laws.{ReachedHolds, NoPoint, ProvedHolds, ProvedHoldsAtWhole}
use Rattle.lin_rows.proofs.Dots.{dot-same, dot-zero, dot-plus, dot-times}

-- one more row
one_more : (rows : List Linear) (n : ℕ) (q : Fraction) (m : Multipliers) (t : Fraction) (v : List Fraction) →
    IsSame (plus (times q (value_at (row_at rows n) t v)) (plus (dot (sum_coefficient rows m) v) (times (sum_constant rows m) t)))
    (plus (dot (sum_coefficient rows ((n, q) ∷ m)) v) (times (sum_constant rows ((n, q) ∷ m)) t))
one_more rows n q m t v =
    let l = row_at rows n in
    let f = λ (i : ℕ). whole (coefficient_of l i) in
    let k = whole l.constant in
    let L = dot f v in
    let D = dot (sum_coefficient rows m) v in
    let K = sum_constant rows m in
    let a = times q L in
    let b = times q (times k t) in
    let d = times K t in
    let E = dot (sum_coefficient rows ((n, q) ∷ m)) v in
    let parts : IsSame (times q (plus L (times k t))) (plus a b) = times_plus q L (times k t) in
    let left : IsSame (plus (times q (plus L (times k t))) (plus D d)) (plus (plus a b) (plus D d)) = plus-same (times q (plus L (times k t))) (plus a b) (plus D d) (plus D d) parts refl in
    let coefficients : IsSame E (plus a D) =
    same_trans E (plus (dot (λ i. times q (f i)) v) D) (plus a D) (dot-plus (λ i. times q (f i)) (sum_coefficient rows m) v)
    (plus-same (dot (λ i. times q (f i)) v) a D D (dot-times q f v) refl) in
    let constant : IsSame (times (plus (times q k) K) t) (plus b d) =
    same_trans (times (plus (times q k) K) t) (plus (times (times q k) t) d) (plus b d) (plus_times (times q k) K t)
    (plus-same (times (times q k) t) b d d (times_assoc q k t) refl) in
    let right : IsSame (plus E (times (plus (times q k) K) t)) (plus (plus a D) (plus b d)) = plus-same E (plus a D) (times (plus (times q k) K) t) (plus b d) coefficients constant in
    same_trans (plus (times q (plus L (times k t))) (plus D d)) (plus (plus a b) (plus D d)) (plus E (times (plus (times q k) K) t)) left
    (same_trans (plus (plus a b) (plus D d)) (plus (plus a D) (plus b d)) (plus E (times (plus (times q k) K) t)) (plus_swap a b D d) (sym right))

-- the row of a number holds
row_holds : (P : Linear → Type 0) (rows : List Linear) (n : ℕ) → All P rows → 0 < n → n ≤ length rows → P (row_at rows n)
row_holds P rows n each low high = each (n - 1) nothing (omega arith)

-- the numbers after the first
later_numbers : (count : ℕ) (p : ℕ × Fraction) (m : Multipliers) → AreRowNumbers count (p ∷ m) → AreRowNumbers count m
later_numbers count p m are = record { each = λ k d below. are.each (suc k) d (omega arith) }

pub sum_not_negative : (rows : List Linear) (m : Multipliers) (t : Fraction) (v : List Fraction) → AreRowNumbers (length rows) m → NotNegative m → RowsHoldAt rows t v → pos 0 ≤ℤ (plus (dot (sum_coefficient rows m) v) (times (sum_constant rows m) t)).num
sum_not_negative rows [] t v are h r =
    let e : IsSame (plus (dot (λ i. whole (pos 0)) v) (times (whole (pos 0)) t)) (whole (pos 0)) =
    same_trans (plus (dot (λ i. whole (pos 0)) v) (times (whole (pos 0)) t)) (plus (whole (pos 0)) (whole (pos 0))) (whole (pos 0))
    (plus-same (dot (λ i. whole (pos 0)) v) (whole (pos 0)) (times (whole (pos 0)) t) (whole (pos 0)) (dot-zero v) (zero-times t)) (plus-zero (whole (pos 0))) in
    nonneg-same (whole (pos 0)) (plus (dot (λ i. whole (pos 0)) v) (times (whole (pos 0)) t)) (sym e) (record { le = tt })
sum_not_negative rows ((n, q) ∷ m) t v are h r =
    let here = are.each zero (n, q) (omega arith) in
    let rest = sum_not_negative rows m t v (later_numbers (length rows) (n, q) m are) (λ k d below. h (suc k) d (omega arith)) r in
    let first = nonneg-times q (value_at (row_at rows n) t v) (h zero (n, q) (omega arith)) (row_holds (λ l. HoldsAt l t v) rows n r.each here.0 here.1).not_negative in
    let S = plus (dot (sum_coefficient rows m) v) (times (sum_constant rows m) t) in
    nonneg-same (plus (times q (value_at (row_at rows n) t v)) S) (plus (dot (sum_coefficient rows ((n, q) ∷ m)) v) (times (sum_constant rows ((n, q) ∷ m)) t)) (one_more rows n q m t v)
    (nonneg-plus (times q (value_at (row_at rows n) t v)) S first rest)

pub reached_holds : ReachedHolds
reached_holds rows m goal t v p h r =
    let D = dot (sum_coefficient rows m) v in
    let G = dot (λ i. whole (coefficient_of goal i)) v in
    let K = sum_constant rows m in
    let same : IsSame (plus D (times K t)) (plus G (times K t)) = plus-same D G (times K t) (times K t) (dot-same (sum_coefficient rows m) (λ i. whole (coefficient_of goal i)) v p.coefficients) refl in
    let low : pos 0 ≤ℤ (plus G (times K t)).num = nonneg-same (plus D (times K t)) (plus G (times K t)) same (sum_not_negative rows m t v p.numbers p.not_negative r) in
    record { not_negative = nonneg-raised G K (whole goal.constant) t p.constant h low }

-- a negative number times a positive one
negative_product : (a b : ℤ) → a <ℤ pos 0 → pos 0 <ℤ b → (a *ℤ b) <ℤ pos 0
negative_product (pos m) b h k = absurd (omega (arith, ints))
negative_product (negsuc m) (pos zero) h k = absurd (omega (arith, ints))
negative_product (negsuc m) (pos (suc n)) h k = let e : 0 < suc m * suc n = omega arith in omega (arith, ints)
negative_product (negsuc m) (negsuc n) h k = absurd (omega (arith, ints))

pub no_point : NoPoint
no_point rows m t v p h r =
    let D = dot (sum_coefficient rows m) v in
    let K = sum_constant rows m in
    let none : IsSame D (whole (pos 0)) = same_trans D (dot (λ i. whole (pos 0)) v) (whole (pos 0)) (dot-same (sum_coefficient rows m) (λ i. whole (pos 0)) v p.coefficients) (dot-zero v) in
    let same : IsSame (plus D (times K t)) (times K t) = same_trans (plus D (times K t)) (plus (whole (pos 0)) (times K t)) (times K t) (plus-same D (whole (pos 0)) (times K t) (times K t) none refl) (zero-plus (times K t)) in
    let low : pos 0 ≤ℤ (times K t).num = nonneg-same (plus D (times K t)) (times K t) same (sum_not_negative rows m t v p.numbers p.not_negative r) in
    let negative : (K.num *ℤ t.num) <ℤ pos 0 = negative_product K.num t.num p.constant h in
    omega (arith, ints)

pub proved_holds : ProvedHolds
proved_holds rows m goal t v p h r = ⊎_elim (λ q. reached_holds rows m goal t v q (omega (arith, ints)) r) (λ q. absurd (no_point rows m t v q h r)) p

-- ---- whole numbers as a point
wholes : List ℤ → List Fraction
wholes [] = []
wholes (z ∷ zs) = whole z ∷ wholes zs

dot_wholes : (f : ℕ → ℤ) (zs : List ℤ) → dot (λ i. whole (f i)) (wholes zs) ≡ whole (whole_sum f zs)
unfolding wholes
dot_wholes f [] = refl
dot_wholes f (z ∷ zs) = ap (plus (times (whole (f zero)) (whole z))) (dot_wholes (λ i. f (suc i)) zs) ∙ ap whole (is (f zero *ℤ z) (whole_sum (λ i. f (suc i)) zs))
  where
    is : (a b : ℤ) → a *ℤ pos 1 +ℤ b *ℤ pos 1 ≡ a +ℤ b
    is a b = omega (arith, ints)

value_wholes : (l : Linear) (zs : List ℤ) → (value_at l (whole (pos 1)) (wholes zs)).num ≡ whole_value l zs
value_wholes l zs = ap (λ (x : Fraction). (plus x (times (whole l.constant) (whole (pos 1)))).num) (dot_wholes (coefficient_of l) zs) ∙ is (whole_sum (coefficient_of l) zs) l.constant
  where
    is : (a k : ℤ) → a *ℤ pos 1 +ℤ (k *ℤ pos 1) *ℤ pos 1 ≡ a +ℤ k
    is a k = omega (arith, ints)

to_wholes : (l : Linear) (zs : List ℤ) → HoldsAtWhole l zs → HoldsAt l (whole (pos 1)) (wholes zs)
to_wholes l zs h = record { not_negative = rw (value_wholes l zs) h.not_negative }

from_wholes : (l : Linear) (zs : List ℤ) → HoldsAt l (whole (pos 1)) (wholes zs) → HoldsAtWhole l zs
from_wholes l zs h = record { not_negative = rw (← value_wholes l zs) h.not_negative }

pub proved_holds_at_whole : ProvedHoldsAtWhole
proved_holds_at_whole rows m goal zs p r =
    from_wholes goal zs (proved_holds rows m goal (whole (pos 1)) (wholes zs) p (record { lt = tt }) (record { each = λ k d below. to_wholes (get_or rows k d) zs (r.each k d below) }))
