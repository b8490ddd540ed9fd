-- The cap that a sum makes.
use Rattle.std.specs.Prelude.{◌≡◌, ◌≢◌, ℕ, zero, suc, ◌+◌, ◌<◌, ◌≤◌, ℤ, pos, negsuc, ◌+ℤ◌, ◌-ℤ◌, ◌*ℤ◌, ◌≤ℤ◌, ◌<ℤ◌, FitsSigned, Option, Some, None, MatchOption, List, [], ◌∷◌, ◌++◌, length, All, Contains}
use Rattle.std.specs.Int.{w128}
use Rattle.std.specs.Option.{SomeIff}
use Rattle.std.proofs.Common.{arith, refl, sym, ap, ◌∙◌, subst, get_or, ⊎_elim, inl, inr}
use Rattle.std.proofs.lemmas.Int.{ints}
use Rattle.std.proofs.lemmas.Bool.{cases_lt}
use Rattle.std.proofs.lemmas.List.{get_or_past, get_or_append_left, get_or_push}
use Rattle.std.proofs.lemmas.List.Elements.{All-from_get_or, All-get_or}
use Rattle.q128.specs.Fraction.{Fraction, whole, IsSame, IsAtMost, IsLowest}
use Rattle.q128.specs.Laws.{IsNarrow}
use Rattle.q128.proofs.Field.{same_trans, same_sym}
use Rattle.q128.proofs.Ordered.{at_most_trans, are_ordered_field}
use Rattle.lin_rows.specs.Linear.{Linear, coefficient_of}
use Rattle.lin_rows.specs.Combining.{Combination}
use Rattle.lin_rows.specs.Transitions.{places_sum, lin_times}
use Rattle.small_sums.proofs.Matches.{is_whole}
use Rattle.small_cert.specs.Small.{IsMultiple}
use Rattle.small_cert.specs.declared.multiple.Multiple.{Multiple}
use Rattle.small_cert.specs.declared.multiple.Multiple.TheVariants.{Once, Twice}
use Rattle.small_cert.specs.Multiples.{times_of}
use Rattle.small_cert.specs.Order.{key_of}
use Rattle.small_cert.proofs.Proved.{scaled_at}
use Rattle.small_cert.proofs.Scaling.{fits_narrow, narrow_fits}
use Rattle.small_caps.specs.Caps.{excess_of, IsCapOf}
use Rattle.small_caps.specs.inside.Numbers.{IsCoefficient, IsRounded, IsWhole, IsWholeSum, IsCoefficientAt, AreCoefficients}
use Rattle.small_caps.proofs.Keys.{same_key}

pub is_multiple : (multiple : Multiple) → IsMultiple (times_of multiple)
is_multiple Once = inl refl
is_multiple Twice = inr refl

-- ---- a number of a cap is the only one
once_one : (s a x y : ℤ) → s ≡ pos 1 *ℤ (x -ℤ a) → s ≡ pos 1 *ℤ (y -ℤ a) → x ≡ y
once_one s a x y e f = omega (arith, ints, e, f)

twice_one : (s a x y : ℤ) → s ≡ pos 2 *ℤ (x -ℤ a) → s ≡ pos 2 *ℤ (y -ℤ a) → x ≡ y
twice_one s a x y e f = omega (arith, ints, e, f)

pub one_coefficient : (k s a x y : ℤ) → IsMultiple k → IsCoefficient s a k x → IsCoefficient s a k y → x ≡ y
one_coefficient k s a x y (inl e) h j = once_one s a x y (subst (λ (k : ℤ). IsCoefficient s a k x) e h) (subst (λ (k : ℤ). IsCoefficient s a k y) e j)
one_coefficient k s a x y (inr e) h j = twice_one s a x y (subst (λ (k : ℤ). IsCoefficient s a k x) e h) (subst (λ (k : ℤ). IsCoefficient s a k y) e j)

not_most : (s t : ℤ) → (s ≤ℤ t → ⊥) → t <ℤ s
not_most s t h = grind (arith, ints)

once_low : (s a x y : ℤ) → s ≤ℤ (pos 1 *ℤ (x -ℤ a)) → (s ≤ℤ (pos 1 *ℤ ((y -ℤ pos 1) -ℤ a)) → ⊥) → y ≤ℤ x
once_low s a x y h j = let k = not_most s (pos 1 *ℤ ((y -ℤ pos 1) -ℤ a)) j in omega (arith, ints, h, k)

twice_low : (s a x y : ℤ) → s ≤ℤ (pos 2 *ℤ (x -ℤ a)) → (s ≤ℤ (pos 2 *ℤ ((y -ℤ pos 1) -ℤ a)) → ⊥) → y ≤ℤ x
twice_low s a x y h j = let k = not_most s (pos 2 *ℤ ((y -ℤ pos 1) -ℤ a)) j in omega (arith, ints, h, k)

rounded_low : (k s a x y : ℤ) → IsMultiple k → IsRounded s a k x → IsRounded s a k y → y ≤ℤ x
rounded_low k s a x y (inl e) h j = let h1 = subst (λ (k : ℤ). IsRounded s a k x) e h in let j1 = subst (λ (k : ℤ). IsRounded s a k y) e j in once_low s a x y h1.under j1.rounded
rounded_low k s a x y (inr e) h j = let h1 = subst (λ (k : ℤ). IsRounded s a k x) e h in let j1 = subst (λ (k : ℤ). IsRounded s a k y) e j in twice_low s a x y h1.under j1.rounded

both_ways : (x y : ℤ) → y ≤ℤ x → x ≤ℤ y → x ≡ y
both_ways x y h j = omega (arith, ints, h, j)

pub one_rounded : (k s a x y : ℤ) → IsMultiple k → IsRounded s a k x → IsRounded s a k y → x ≡ y
one_rounded k s a x y m h j = both_ways x y (rounded_low k s a x y m h j) (rounded_low k s a y x m j h)

-- the share of a sum is rounded
pub share_rounded : (k s a x : ℤ) → s ≤ℤ (k *ℤ x) → (s ≤ℤ (k *ℤ (x -ℤ pos 1)) → ⊥) → IsRounded s a k (x +ℤ a)
share_rounded k s a x low high = record { under = subst (λ (z : ℤ). s ≤ℤ (k *ℤ z)) (back x a) low; rounded = λ h. high (subst (λ (z : ℤ). s ≤ℤ (k *ℤ z)) (less x a) h) }
  where
    back : (x a : ℤ) → x ≡ (x +ℤ a) -ℤ a
    back x a = omega (arith, ints)

    less : (x a : ℤ) → ((x +ℤ a) -ℤ pos 1) -ℤ a ≡ x -ℤ pos 1
    less x a = omega (arith, ints)

-- the constant that this makes, where it fits
once_distance : (k x a : ℤ) → k *ℤ ((x +ℤ a) -ℤ a) ≡ k *ℤ x
once_distance k x a = ap (λ (z : ℤ). k *ℤ z) (back x a)
  where
    back : (x a : ℤ) → (x +ℤ a) -ℤ a ≡ x
    back x a = omega (arith, ints)

pub constant_answer : (o : Option ℤ) (k s a x t : ℤ) → IsMultiple k → IsRounded s a k (x +ℤ a) → SomeIff o (FitsSigned w128 (x +ℤ a)) (x +ℤ a) → t ≡ k → FitsSigned w128 (t *ℤ x)
    → MatchOption o ((y : ℤ) → IsRounded s a k y → IsNarrow y → IsNarrow (k *ℤ (y -ℤ a)) → ⊥) (λ y. IsRounded s a k y × IsNarrow (k *ℤ (y -ℤ a)))
constant_answer None k s a x t multiple rounded made times fits = λ y h narrow excess. made (narrow_fits (x +ℤ a) (subst IsNarrow (one_rounded k s a y (x +ℤ a) multiple h rounded) narrow))
constant_answer (Some y) k s a x t multiple rounded made times fits =
    let distance : IsNarrow (k *ℤ ((x +ℤ a) -ℤ a)) = subst IsNarrow (ap (λ (w : ℤ). w *ℤ x) times ∙ sym (once_distance k x a)) (fits_narrow (t *ℤ x) fits) in
    (subst (λ (w : ℤ). IsRounded s a k w) (sym made.1) rounded, subst (λ (w : ℤ). IsNarrow (k *ℤ (w -ℤ a))) (sym made.1) distance)

pub constant_unfit : (k s a x t : ℤ) → IsMultiple k → IsRounded s a k (x +ℤ a) → t ≡ k → (FitsSigned w128 (t *ℤ x) → ⊥) → (y : ℤ) → IsRounded s a k y → IsNarrow (k *ℤ (y -ℤ a)) → ⊥
constant_unfit k s a x t multiple rounded times unfit y h excess =
    let distance : IsNarrow (k *ℤ ((x +ℤ a) -ℤ a)) = subst (λ (w : ℤ). IsNarrow (k *ℤ (w -ℤ a))) (one_rounded k s a y (x +ℤ a) multiple h rounded) excess in
    unfit (narrow_fits (t *ℤ x) (subst IsNarrow (once_distance k x a ∙ ap (λ (w : ℤ). w *ℤ x) (sym times)) distance))

-- ---- numbers of a sum
same_whole : (a b : ℤ) → IsSame (whole a) (whole b) → a ≡ b
same_whole a b e = omega (arith, ints, e)

whole_at : (x : Fraction) (n z : ℤ) → IsLowest x → IsWhole x → n ≡ x.num → IsSame x (whole z) → n ≡ z
whole_at x n z low is read e =
    let made : whole x.num ≡ x = is_whole x is.0 low is.1 in
    read ∙ same_whole x.num z (subst (λ (y : Fraction). IsSame y (whole z)) (sym made) e)

whole_back : (x : Fraction) (n z : ℤ) → IsLowest x → IsWhole x → n ≡ x.num → n ≡ z → IsSame x (whole z)
whole_back x n z low is read e =
    let made : whole x.num ≡ x = is_whole x is.0 low is.1 in
    subst (λ (y : Fraction). IsSame y (whole z)) made (subst (λ (w : ℤ). IsSame (whole w) (whole z)) read (ap (λ (w : ℤ). w *ℤ pos 1) e))

-- ---- a coefficient
pub not_over : (s : Combination) (l : Linear) (entry : List ℕ) (k : ℤ) (v : ℕ) (x made num own : ℤ) → IsMultiple k → IsWholeSum s → IsLowest (get_or s.coefficients v (whole (pos 0))) → num ≡ (get_or s.coefficients v (whole (pos 0))).num → own ≡ coefficient_of l v
    → IsCoefficient num own k made → made ≢ pos 0 → (Contains entry v → ⊥) → IsCoefficientAt s l entry k v x → ⊥
not_over s l entry k v x made num own multiple are low read is value ne out h =
    let q = get_or s.coefficients v (whole (pos 0)) in
    let mine : IsCoefficient num (coefficient_of l v) k x = whole_at q num (k *ℤ (x -ℤ coefficient_of l v)) low (are.coefficients v) read h.value in
    let same : x ≡ made = one_coefficient k num (coefficient_of l v) x made multiple mine (subst (λ (a : ℤ). IsCoefficient num a k made) is value) in
    out (h.over (λ (e : x ≡ pos 0). ne (sym same ∙ e)))

pub no_coefficient : (s : Combination) (l : Linear) (entry : List ℕ) (k : ℤ) (v : ℕ) (x num own : ℤ) → IsWholeSum s → IsLowest (get_or s.coefficients v (whole (pos 0))) → num ≡ (get_or s.coefficients v (whole (pos 0))).num → own ≡ coefficient_of l v
    → ((x : ℤ) → IsCoefficient num own k x → IsNarrow x → ⊥) → IsCoefficientAt s l entry k v x → ⊥
no_coefficient s l entry k v x num own are low read is none h =
    let q = get_or s.coefficients v (whole (pos 0)) in
    none x (subst (λ (a : ℤ). IsCoefficient num a k x) (sym is) (whole_at q num (k *ℤ (x -ℤ coefficient_of l v)) low (are.coefficients v) read h.value)) h.fits

pub coefficient_made : (s : Combination) (l : Linear) (entry : List ℕ) (k : ℤ) (v : ℕ) (made num own : ℤ) → IsWholeSum s → IsLowest (get_or s.coefficients v (whole (pos 0))) → num ≡ (get_or s.coefficients v (whole (pos 0))).num → own ≡ coefficient_of l v
    → IsCoefficient num own k made → IsNarrow num → IsNarrow made → (made ≢ pos 0 → Contains entry v) → IsCoefficientAt s l entry k v made
coefficient_made s l entry k v made num own are low read is value fits narrow over =
    let q = get_or s.coefficients v (whole (pos 0)) in
    let mine : num ≡ k *ℤ (made -ℤ coefficient_of l v) = subst (λ (a : ℤ). IsCoefficient num a k made) is value in
    record { value = whole_back q num (k *ℤ (made -ℤ coefficient_of l v)) low (are.coefficients v) read mine; fits = narrow; fits_excess = subst IsNarrow mine fits; over = over }

-- the same with what the code makes
pub coefficient_answer : (o : Option ℤ) (s : Combination) (l : Linear) (entry : List ℕ) (k : ℤ) (v : ℕ) (made num own : ℤ) → IsMultiple k → IsWholeSum s → IsLowest (get_or s.coefficients v (whole (pos 0))) → num ≡ (get_or s.coefficients v (whole (pos 0))).num → own ≡ coefficient_of l v
    → IsCoefficient num own k made → FitsSigned w128 num → FitsSigned w128 made → MatchOption o ((made ≢ pos 0) × (Contains entry v → ⊥)) (λ x. (x ≡ made) × (x ≢ pos 0 → Contains entry v))
    → MatchOption o ((x : ℤ) → IsCoefficientAt s l entry k v x → ⊥) (IsCoefficientAt s l entry k v)
coefficient_answer None s l entry k v made num own multiple are low read is value fits narrow h = λ x j. not_over s l entry k v x made num own multiple are low read is value h.0 h.1 j
coefficient_answer (Some x) s l entry k v made num own multiple are low read is value fits narrow h =
    subst (λ (z : ℤ). IsCoefficientAt s l entry k v z) (sym h.0)
    (coefficient_made s l entry k v made num own are low read is value (fits_narrow num fits) (fits_narrow made narrow) (subst (λ (z : ℤ). z ≢ pos 0 → Contains entry v) h.0 h.1))

-- ---- all coefficients
pub coefficients_more : (s : Combination) (l : Linear) (entry : List ℕ) (k : ℤ) (list : List ℤ) (v : ℕ) (x : ℤ) → length list ≡ v → ((i : ℕ) → i < v → IsCoefficientAt s l entry k i (get_or list i (pos 0))) → IsCoefficientAt s l entry k v x
    → (i : ℕ) → i < v + 1 → IsCoefficientAt s l entry k i (get_or (list ++ x ∷ []) i (pos 0))
coefficients_more s l entry k list v x long before here i lt = ⊎_elim
    (λ (less : i < v). subst (λ (z : ℤ). IsCoefficientAt s l entry k i z) (sym (get_or_append_left list (x ∷ []) (pos 0) i (omega (arith, long, less)))) (before i less))
    (λ le.
    let same : i ≡ v = omega (arith, lt, le) in
    subst (λ (j : ℕ). IsCoefficientAt s l entry k j (get_or (list ++ x ∷ []) j (pos 0))) (sym same)
    (subst (λ (z : ℤ). IsCoefficientAt s l entry k v z) (sym (get_or_push list x (pos 0) v long)) here))
    (cases_lt i v)

zero_value : (x : Fraction) (k a c : ℤ) → x ≡ whole (pos 0) → a ≡ pos 0 → c ≡ pos 0 → k *ℤ (c -ℤ a) ≡ pos 0 → IsSame x (whole (k *ℤ (c -ℤ a)))
zero_value x k a c e f g is = subst (λ (z : ℤ). IsSame x (whole z)) (sym is) (subst (λ (y : Fraction). IsSame y (whole (pos 0))) (sym e) refl)

nothing_left : (k a c : ℤ) → a ≡ pos 0 → c ≡ pos 0 → k *ℤ (c -ℤ a) ≡ pos 0
nothing_left k a c e f = ap (λ (z : ℤ). k *ℤ (z -ℤ a)) f ∙ ap (λ (z : ℤ). k *ℤ (pos 0 -ℤ z)) e ∙ left k
  where
    left : (k : ℤ) → k *ℤ (pos 0 -ℤ pos 0) ≡ pos 0
    left k = omega (arith, ints)

zero_narrow : IsNarrow (pos 0)
zero_narrow = omega arith

pub coefficients_all : (s : Combination) (l : Linear) (entry : List ℕ) (k : ℤ) (list : List ℤ) (n : ℕ) → length list ≡ n → length s.coefficients ≤ n → length l.coefficients ≤ n → ((i : ℕ) → i < n → IsCoefficientAt s l entry k i (get_or list i (pos 0))) → AreCoefficients s l entry k list
coefficients_all s l entry k list n long first second each = record { each = λ v. ⊎_elim (each v) (past v) (cases_lt v n) }
  where
    past : (v : ℕ) → n ≤ v → IsCoefficientAt s l entry k v (get_or list v (pos 0))
    past v le =
        let q : get_or s.coefficients v (whole (pos 0)) ≡ whole (pos 0) = get_or_past s.coefficients v (whole (pos 0)) (omega (arith, first, le)) in
        let a : coefficient_of l v ≡ pos 0 = get_or_past l.coefficients v (pos 0) (omega (arith, second, le)) in
        let c : get_or list v (pos 0) ≡ pos 0 = get_or_past list v (pos 0) (omega (arith, long, le)) in
        let none : k *ℤ (get_or list v (pos 0) -ℤ coefficient_of l v) ≡ pos 0 = nothing_left k (coefficient_of l v) (get_or list v (pos 0)) a c in
        record {
          value = zero_value (get_or s.coefficients v (whole (pos 0))) k (coefficient_of l v) (get_or list v (pos 0)) q a c none;
          fits = subst IsNarrow (sym c) zero_narrow;
          fits_excess = subst IsNarrow (sym none) zero_narrow;
          over = λ ne. absurd (ne c);
        }

-- ---- the coefficients of k * (u - l)
place_of_sum : (xs ys : List ℤ) (i : ℕ) → get_or (places_sum xs ys) i (pos 0) ≡ get_or xs i (pos 0) +ℤ get_or ys i (pos 0)
place_of_sum [] ys i = nothing_plus (get_or ys i (pos 0))
  where
    nothing_plus : (x : ℤ) → x ≡ pos 0 +ℤ x
    nothing_plus x = omega (arith, ints)
place_of_sum (x ∷ xs) [] i = plus_nothing (get_or (x ∷ xs) i (pos 0))
  where
    plus_nothing : (x : ℤ) → x ≡ x +ℤ pos 0
    plus_nothing x = omega (arith, ints)
place_of_sum (x ∷ xs) (y ∷ ys) zero = refl
place_of_sum (x ∷ xs) (y ∷ ys) (suc i) = place_of_sum xs ys i

opposite : (a b : ℤ) → a +ℤ negsuc 0 *ℤ b ≡ a -ℤ b
opposite a b = omega (arith, ints)

pub excess_at : (u l : Linear) (k : ℤ) (v : ℕ) → coefficient_of (lin_times k (excess_of u l)) v ≡ k *ℤ (coefficient_of u v -ℤ coefficient_of l v)
excess_at u l k v =
    scaled_at k (excess_of u l).coefficients v
    ∙ ap (λ (z : ℤ). k *ℤ z) (place_of_sum u.coefficients (lin_times (negsuc 0) l).coefficients v ∙ ap (λ (z : ℤ). coefficient_of u v +ℤ z) (scaled_at (negsuc 0) l.coefficients v) ∙ opposite (coefficient_of u v) (coefficient_of l v))

-- ---- a cap has these numbers
list_narrow : (cs : List ℤ) (v : ℕ) → All IsNarrow cs → IsNarrow (get_or cs v (pos 0))
list_narrow cs v all = ⊎_elim (λ lt. All-get_or IsNarrow cs v (pos 0) lt all) (λ le. subst IsNarrow (sym (get_or_past cs v (pos 0) le)) zero_narrow) (cases_lt v (length cs))

pub cap_coefficients : (s : Combination) (l : Linear) (entry : List ℕ) (k : ℤ) (u : Linear) → IsCapOf s l entry u k → AreCoefficients s l entry k u.coefficients
cap_coefficients s l entry k u h = record {
  each = λ v. record {
    value = subst (λ (z : ℤ). IsSame (get_or s.coefficients v (whole (pos 0))) (whole z)) (excess_at u l k v) (h.same.each v);
    fits = list_narrow u.coefficients v h.fits.coefficients;
    fits_excess = subst IsNarrow (excess_at u l k v) (list_narrow (lin_times k (excess_of u l)).coefficients v h.fits_excess.coefficients);
    over = h.over.each v;
  };
}

at_most_whole : (a b : ℤ) → a ≤ℤ b → IsAtMost (whole a) (whole b)
at_most_whole a b h = omega (arith, ints, h)

whole_at_most : (a b : ℤ) → IsAtMost (whole a) (whole b) → a ≤ℤ b
whole_at_most a b h = omega (arith, ints, h)

-- the constant
constant_is : (x : Fraction) (n : ℤ) → IsLowest x → IsWhole x → n ≡ x.num → IsSame x (whole n)
constant_is x n low are read = whole_back x n n low are read refl

most_from : (x : Fraction) (n a : ℤ) → IsSame x (whole n) → IsAtMost x (whole a) → n ≤ℤ a
most_from x n a e h = whole_at_most n a (at_most_trans (whole n) x (whole a) (are_ordered_field.order.reflexive (whole n) x (same_sym x (whole n) e)) h)

most_to : (x : Fraction) (n a : ℤ) → IsSame x (whole n) → n ≤ℤ a → IsAtMost x (whole a)
most_to x n a e h = at_most_trans x (whole n) (whole a) (are_ordered_field.order.reflexive x (whole n) e) (at_most_whole n a h)

cap_rounded : (s : Combination) (l : Linear) (entry : List ℕ) (k : ℤ) (u : Linear) (n : ℤ) → IsSame s.constant (whole n) → IsCapOf s l entry u k → IsRounded n l.constant k u.constant
cap_rounded s l entry k u n is h = record {
  under = most_from s.constant n (k *ℤ (u.constant -ℤ l.constant)) is h.under;
  rounded = λ le. h.rounded (most_to s.constant n (k *ℤ ((u.constant -ℤ pos 1) -ℤ l.constant)) is le);
}

excess_constant : (u l k : ℤ) → k *ℤ (u +ℤ negsuc 0 *ℤ l) ≡ k *ℤ (u -ℤ l)
excess_constant u l k = ap (λ (z : ℤ). k *ℤ z) (opposite u l)

pub no_constant : (s : Combination) (l : Linear) (entry : List ℕ) (k : ℤ) (u : Linear) (n own : ℤ) → IsLowest s.constant → IsWholeSum s → n ≡ s.constant.num → own ≡ l.constant
    → ((x : ℤ) → IsRounded n own k x → IsNarrow x → IsNarrow (k *ℤ (x -ℤ own)) → ⊥) → IsCapOf s l entry u k → ⊥
no_constant s l entry k u n own low are read is none h =
    let whole_is : IsSame s.constant (whole n) = constant_is s.constant n low are.constant read in
    none u.constant (subst (λ (a : ℤ). IsRounded n a k u.constant) (sym is) (cap_rounded s l entry k u n whole_is h)) h.fits.constant
    (subst (λ (a : ℤ). IsNarrow (k *ℤ (u.constant -ℤ a))) (sym is) (subst IsNarrow (excess_constant u.constant l.constant k) h.fits_excess.constant))

pub cap_made : (s : Combination) (l : Linear) (entry : List ℕ) (k : ℤ) (list : List ℤ) (u : Linear) (n own made : ℤ) → IsLowest s.constant → IsWholeSum s → n ≡ s.constant.num → own ≡ l.constant
    → AreCoefficients s l entry k list → IsRounded n own k made → IsNarrow made → IsNarrow (k *ℤ (made -ℤ own)) → u ≡ record { coefficients = list; constant = made } → IsCapOf s l entry u k
cap_made s l entry k list u n own made low are read is coefficients rounded narrow narrow_excess e = subst (λ (w : Linear). IsCapOf s l entry w k) (sym e) (record {
  over = record { each = λ v. (coefficients.each v).over };
  same = record { each = λ v. subst (λ (z : ℤ). IsSame (get_or s.coefficients v (whole (pos 0))) (whole z)) (sym (excess_at cap l k v)) (coefficients.each v).value };
  under = most_to s.constant n (k *ℤ (made -ℤ l.constant)) whole_is mine.under;
  rounded = λ le. mine.rounded (most_from s.constant n (k *ℤ ((made -ℤ pos 1) -ℤ l.constant)) whole_is le);
  fits = record { coefficients = All-from_get_or IsNarrow list (pos 0) (λ i lt. (coefficients.each i).fits); constant = narrow };
  fits_excess = record {
    coefficients = All-from_get_or IsNarrow (lin_times k (excess_of cap l)).coefficients (pos 0) (λ i lt. subst IsNarrow (sym (excess_at cap l k i)) (coefficients.each i).fits_excess);
    constant = subst IsNarrow (sym (excess_constant made l.constant k)) (subst (λ (a : ℤ). IsNarrow (k *ℤ (made -ℤ a))) is narrow_excess);
  };
})
  where
    cap : Linear
    cap = record { coefficients = list; constant = made }

    whole_is : IsSame s.constant (whole n)
    whole_is = constant_is s.constant n low are.constant read

    mine : IsRounded n l.constant k made
    mine = subst (λ (a : ℤ). IsRounded n a k made) is rounded

-- ---- a sum makes one cap
pub same_number : (x : Fraction) (a b : ℤ) → IsSame x (whole a) → IsSame x (whole b) → a ≡ b
same_number x a b e f = same_whole a b (same_trans (whole a) x (whole b) (same_sym x (whole a) e) f)

pub one_key : (s : Combination) (l : Linear) (entry : List ℕ) (k : ℤ) (u w : Linear) → IsMultiple k → IsCapOf s l entry u k → IsCapOf s l entry w k → key_of w ≡ key_of u
one_key s l entry k u w multiple h j =
    let us = cap_coefficients s l entry k u h in
    let ws = cap_coefficients s l entry k w j in
    same_key w u (λ v.
    one_coefficient k (k *ℤ (coefficient_of w v -ℤ coefficient_of l v)) (coefficient_of l v) (coefficient_of w v) (coefficient_of u v) multiple refl
    (same_number (get_or s.coefficients v (whole (pos 0))) (k *ℤ (coefficient_of w v -ℤ coefficient_of l v)) (k *ℤ (coefficient_of u v -ℤ coefficient_of l v)) (ws.each v).value (us.each v).value))

pub one_constant : (s : Combination) (l : Linear) (entry : List ℕ) (k : ℤ) (u w : Linear) → IsMultiple k → IsWholeSum s → IsCapOf s l entry u k → IsCapOf s l entry w k → w.constant ≡ u.constant
one_constant s l entry k u w multiple are h j =
    let n = are.constant.0 in
    let is = are.constant.1 in
    one_rounded k n l.constant w.constant u.constant multiple (cap_rounded s l entry k w n is j) (cap_rounded s l entry k u n is h)
