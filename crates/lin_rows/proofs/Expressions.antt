-- Sums and multiples of expressions, and their values.
use Rattle.std.specs.Prelude.{◌≡◌, ℕ, zero, suc, ℤ, pos, negsuc, ◌+ℤ◌, ◌*ℤ◌, List, [], ◌∷◌, map}
use Rattle.std.proofs.Common.{arith, refl, sym, ap, ◌∙◌, get_or}
use Rattle.std.proofs.lemmas.Int.{ints}
use Rattle.q128.specs.Fraction.{Fraction, whole, IsSame, plus, times}
use Rattle.q128.proofs.Ring.{*ℤ_assoc, +ℤ-*ℤ, *ℤ-+ℤ}
use Rattle.q128.proofs.Field.{same_trans, plus-same, times-same, times_assoc, times_plus, plus_times, plus_swap, zero-plus, zero-times}
use Rattle.lin_rows.specs.Linear.{Linear, nothing, coefficient_of}
use Rattle.lin_rows.specs.Points.{dot, value_at, whole_sum, whole_value}
use Rattle.lin_rows.specs.Transitions.{places_sum, lin_plus, lin_times, lin_constant}
use Rattle.lin_rows.proofs.Dots.{dot-same, dot-zero, dot-plus, dot-times}

-- ---- coefficients
plus_nothing : (x : ℤ) → x ≡ x +ℤ pos 0
plus_nothing x = omega (arith, ints)

nothing_plus : (x : ℤ) → x ≡ pos 0 +ℤ x
nothing_plus x = omega (arith, ints)

place_of_sum : (xs ys : List ℤ) (i : ℕ) → get_or (places_sum xs ys) i (pos 0) ≡ get_or xs i (pos 0) +ℤ get_or ys i (pos 0)
place_of_sum [] ys i = nothing_plus (get_or ys i (pos 0))
place_of_sum (x ∷ xs) [] i = plus_nothing (get_or (x ∷ xs) i (pos 0))
place_of_sum (x ∷ xs) (y ∷ ys) zero = refl
place_of_sum (x ∷ xs) (y ∷ ys) (suc i) = place_of_sum xs ys i

times_nothing : (k : ℤ) → pos 0 ≡ k *ℤ pos 0
times_nothing k = omega (arith, ints)

place_of_multiple : (k : ℤ) (xs : List ℤ) (i : ℕ) → get_or (map (λ c. k *ℤ c) xs) i (pos 0) ≡ k *ℤ get_or xs i (pos 0)
place_of_multiple k [] i = times_nothing k
place_of_multiple k (x ∷ xs) zero = refl
place_of_multiple k (x ∷ xs) (suc i) = place_of_multiple k xs i

-- ---- values at whole numbers
whole_sum-same : (f g : ℕ → ℤ) (zs : List ℤ) → ((i : ℕ) → f i ≡ g i) → whole_sum f zs ≡ whole_sum g zs
whole_sum-same f g [] e = refl
whole_sum-same f g (z ∷ zs) e = ap (λ k. k *ℤ z +ℤ whole_sum (λ i. f (suc i)) zs) (e zero) ∙ ap (λ k. g zero *ℤ z +ℤ k) (whole_sum-same (λ i. f (suc i)) (λ i. g (suc i)) zs (λ i. e (suc i)))

whole_sum-plus : (f g : ℕ → ℤ) (zs : List ℤ) → whole_sum (λ i. f i +ℤ g i) zs ≡ whole_sum f zs +ℤ whole_sum g zs
whole_sum-plus f g [] = refl
whole_sum-plus f g (z ∷ zs) = is (f zero) (g zero) z _ _ _ (whole_sum-plus (λ i. f (suc i)) (λ i. g (suc i)) zs)
  where
    is : (a b z F G S : ℤ) → S ≡ F +ℤ G → (a +ℤ b) *ℤ z +ℤ S ≡ (a *ℤ z +ℤ F) +ℤ (b *ℤ z +ℤ G)
    is a b z F G S e = rw (+ℤ-*ℤ a b z) (omega (arith, ints))

whole_sum-times : (k : ℤ) (f : ℕ → ℤ) (zs : List ℤ) → whole_sum (λ i. k *ℤ f i) zs ≡ k *ℤ whole_sum f zs
whole_sum-times k f [] = times_nothing k
whole_sum-times k f (z ∷ zs) = is (f zero) z _ _ (whole_sum-times k (λ i. f (suc i)) zs)
  where
    is : (a z F S : ℤ) → S ≡ k *ℤ F → (k *ℤ a) *ℤ z +ℤ S ≡ k *ℤ (a *ℤ z +ℤ F)
    is a z F S e = rw (*ℤ_assoc k a z, *ℤ-+ℤ k (a *ℤ z) F, e) refl

pub whole_sum-zero : (zs : List ℤ) → whole_sum (λ i. pos 0) zs ≡ pos 0
whole_sum-zero [] = refl
whole_sum-zero (z ∷ zs) = is z _ (whole_sum-zero zs)
  where
    is : (z S : ℤ) → S ≡ pos 0 → pos 0 *ℤ z +ℤ S ≡ pos 0
    is (pos n) S e = rw e (omega (arith, ints))
    is (negsuc n) S e = rw e (omega (arith, ints))

pub whole_value-plus : (a b : Linear) (zs : List ℤ) → whole_value (lin_plus a b) zs ≡ whole_value a zs +ℤ whole_value b zs
whole_value-plus a b zs =
    let each = λ (i : ℕ). place_of_sum a.coefficients b.coefficients i in
    is _ _ _ a.constant b.constant (whole_sum-same (coefficient_of (lin_plus a b)) (λ i. coefficient_of a i +ℤ coefficient_of b i) zs each ∙ whole_sum-plus (coefficient_of a) (coefficient_of b) zs)
  where
    is : (S A B k n : ℤ) → S ≡ A +ℤ B → S +ℤ (k +ℤ n) ≡ (A +ℤ k) +ℤ (B +ℤ n)
    is S A B k n e = omega (arith, ints)

pub whole_value-times : (k : ℤ) (l : Linear) (zs : List ℤ) → whole_value (lin_times k l) zs ≡ k *ℤ whole_value l zs
whole_value-times k l zs =
    let each = λ (i : ℕ). place_of_multiple k l.coefficients i in
    is _ _ l.constant (whole_sum-same (coefficient_of (lin_times k l)) (λ i. k *ℤ coefficient_of l i) zs each ∙ whole_sum-times k (coefficient_of l) zs)
  where
    is : (S A n : ℤ) → S ≡ k *ℤ A → S +ℤ k *ℤ n ≡ k *ℤ (A +ℤ n)
    is S A n e = rw (*ℤ-+ℤ k A n, e) refl

pub whole_value-constant : (k : ℤ) (zs : List ℤ) → whole_value (lin_constant k) zs ≡ k
whole_value-constant k zs = ap (λ s. s +ℤ k) (whole_sum-zero zs) ∙ sym (nothing_plus k)

-- ---- values at points and rays
whole_plus : (x y : ℤ) → IsSame (whole (x +ℤ y)) (plus (whole x) (whole y))
whole_plus x y = omega (arith, ints)

pub value_at-plus : (a b : Linear) (t : Fraction) (v : List Fraction) → IsSame (value_at (lin_plus a b) t v) (plus (value_at a t v) (value_at b t v))
value_at-plus a b t v =
    let A = λ (i : ℕ). whole (coefficient_of a i) in
    let B = λ (i : ℕ). whole (coefficient_of b i) in
    let S = λ (i : ℕ). whole (coefficient_of (lin_plus a b) i) in
    let ka = times (whole a.constant) t in
    let kb = times (whole b.constant) t in
    let ks = times (whole (a.constant +ℤ b.constant)) t in
    let each : (i : ℕ) → IsSame (S i) (plus (A i) (B i)) = λ i. one_place i in
    let sums : IsSame (dot S v) (plus (dot A v) (dot B v)) = same_trans (dot S v) (dot (λ i. plus (A i) (B i)) v) (plus (dot A v) (dot B v)) (dot-same S (λ i. plus (A i) (B i)) v each) (dot-plus A B v) in
    let constants : IsSame ks (plus ka kb) =
    same_trans ks (times (plus (whole a.constant) (whole b.constant)) t) (plus ka kb) (times-same (whole (a.constant +ℤ b.constant)) (plus (whole a.constant) (whole b.constant)) t t (whole_plus a.constant b.constant) refl) (plus_times (whole a.constant) (whole b.constant) t) in
    same_trans (plus (dot S v) ks) (plus (plus (dot A v) (dot B v)) (plus ka kb)) (plus (plus (dot A v) ka) (plus (dot B v) kb))
    (plus-same (dot S v) (plus (dot A v) (dot B v)) ks (plus ka kb) sums constants) (plus_swap (dot A v) (dot B v) ka kb)
  where
    one_place : (i : ℕ) → IsSame (whole (coefficient_of (lin_plus a b) i)) (plus (whole (coefficient_of a i)) (whole (coefficient_of b i)))
    one_place i = rw (place_of_sum a.coefficients b.coefficients i) (whole_plus (coefficient_of a i) (coefficient_of b i))

pub value_at-times : (k : ℤ) (l : Linear) (t : Fraction) (v : List Fraction) → IsSame (value_at (lin_times k l) t v) (times (whole k) (value_at l t v))
value_at-times k l t v =
    let q = whole k in
    let A = λ (i : ℕ). whole (coefficient_of l i) in
    let S = λ (i : ℕ). whole (coefficient_of (lin_times k l) i) in
    let c = whole l.constant in
    let ks = times (whole (k *ℤ l.constant)) t in
    let each : (i : ℕ) → IsSame (S i) (times q (A i)) = λ i. one_place i in
    let sums : IsSame (dot S v) (times q (dot A v)) = same_trans (dot S v) (dot (λ i. times q (A i)) v) (times q (dot A v)) (dot-same S (λ i. times q (A i)) v each) (dot-times q A v) in
    let constants : IsSame ks (times q (times c t)) = times_assoc q c t in
    same_trans (plus (dot S v) ks) (plus (times q (dot A v)) (times q (times c t))) (times q (plus (dot A v) (times c t)))
    (plus-same (dot S v) (times q (dot A v)) ks (times q (times c t)) sums constants) (sym (times_plus q (dot A v) (times c t)))
  where
    one_place : (i : ℕ) → IsSame (whole (coefficient_of (lin_times k l) i)) (times (whole k) (whole (coefficient_of l i)))
    one_place i = ap (λ n. n *ℤ pos 1) (place_of_multiple k l.coefficients i)

pub value_at-constant : (k : ℤ) (t : Fraction) (v : List Fraction) → IsSame (value_at (lin_constant k) t v) (times (whole k) t)
value_at-constant k t v =
    let D = dot (λ i. whole (pos 0)) v in
    let K = times (whole k) t in
    same_trans (plus D K) (plus (whole (pos 0)) K) K (plus-same D (whole (pos 0)) K K (dot-zero v) refl) (zero-plus K)

pub value_at-nothing : (t : Fraction) (v : List Fraction) → IsSame (value_at nothing t v) (whole (pos 0))
value_at-nothing t v = same_trans (value_at nothing t v) (times (whole (pos 0)) t) (whole (pos 0)) (value_at-constant (pos 0) t v) (zero-times t)
