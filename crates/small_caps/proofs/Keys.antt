-- The order of keys, and the keys of expressions.
use Rattle.std.specs.Prelude.{◌≡◌, ◌⊎◌, ◌↔◌, ℕ, suc, ◌+◌, ◌<◌, ℤ, ◌<ℤ◌, pos, Bool, true, false, List, [], ◌∷◌, ◌++◌, length, map, if◌then◌else◌}
use Rattle.std.specs.Ordering.{MatchOrdering, nat_cmp, ordering_then, int_eq}
use Rattle.std.specs.Cmp.Lexicographic.{slice_cmp}
use Rattle.std.specs.Cmp.{ranks}
use Rattle.std.specs.declared.cmp.Ordering.{Ordering}
use Rattle.std.specs.declared.cmp.Ordering.TheVariants.{Less, Equal, Greater}
use Rattle.std.proofs.Common.{arith, refl, sym, ap, ◌∙◌, subst, get_or, take, ⊎_elim, inl, inr}
use Rattle.std.proofs.lemmas.List.{take_more, length-take}
use Rattle.lin_rows.specs.Linear.{Linear, coefficient_of}
use Rattle.small_cert.specs.Order.{terms_from, rank_of, key_of, Precedes}

-- ---- keys are ordered
both : (x y : ℕ) (xs ys : List ℕ) (r s : Ordering) → MatchOrdering r (x < y) (x ≡ y) (y < x) → MatchOrdering s (Precedes xs ys) (xs ≡ ys) (Precedes ys xs)
    → MatchOrdering (ordering_then r s) (Precedes (x ∷ xs) (y ∷ ys)) (x ∷ xs ≡ y ∷ ys) (Precedes (y ∷ ys) (x ∷ xs))
both x y xs ys Less s h k = inl h
both x y xs ys Greater s h k = inl h
both x y xs ys Equal Less h k = inr (h, k)
both x y xs ys Equal Equal h k = ap (λ (z : ℕ). z ∷ xs) h ∙ ap (λ (zs : List ℕ). y ∷ zs) k
both x y xs ys Equal Greater h k = inr (sym h, k)

key_ranks : (xs ys : List ℕ) → MatchOrdering (slice_cmp nat_cmp xs ys) (Precedes xs ys) (xs ≡ ys) (Precedes ys xs)
key_ranks [] [] = refl
key_ranks [] (y ∷ ys) = tt
key_ranks (x ∷ xs) [] = tt
key_ranks (x ∷ xs) (y ∷ ys) = both x y xs ys (nat_cmp x y) (slice_cmp nat_cmp xs ys) (ranks x y) (key_ranks xs ys)

pub key_less : (xs ys : List ℕ) (r : Ordering) → r ≡ slice_cmp nat_cmp xs ys → r ≡ Less → Precedes xs ys
key_less xs ys r made is = subst (λ (r : Ordering). MatchOrdering r (Precedes xs ys) (xs ≡ ys) (Precedes ys xs)) (sym made ∙ is) (key_ranks xs ys)

pub key_equal : (xs ys : List ℕ) (r : Ordering) → r ≡ slice_cmp nat_cmp xs ys → r ≡ Equal → xs ≡ ys
key_equal xs ys r made is = subst (λ (r : Ordering). MatchOrdering r (Precedes xs ys) (xs ≡ ys) (Precedes ys xs)) (sym made ∙ is) (key_ranks xs ys)

pub key_greater : (xs ys : List ℕ) (r : Ordering) → r ≡ slice_cmp nat_cmp xs ys → r ≡ Greater → Precedes ys xs
key_greater xs ys r made is = subst (λ (r : Ordering). MatchOrdering r (Precedes xs ys) (xs ≡ ys) (Precedes ys xs)) (sym made ∙ is) (key_ranks xs ys)

pub key_apart : (xs : List ℕ) → Precedes xs xs → ⊥
key_apart [] h = h
key_apart (x ∷ xs) (inl h) = absurd (omega (arith, h))
key_apart (x ∷ xs) (inr h) = key_apart xs h.1

pub key_trans : (xs ys zs : List ℕ) → Precedes xs ys → Precedes ys zs → Precedes xs zs
key_trans [] (y ∷ ys) (z ∷ zs) h k = tt
key_trans [] [] zs h k = absurd h
key_trans [] (y ∷ ys) [] h k = absurd k
key_trans (x ∷ xs) [] zs h k = absurd h
key_trans (x ∷ xs) (y ∷ ys) [] h k = absurd k
key_trans (x ∷ xs) (y ∷ ys) (z ∷ zs) (inl h) (inl k) = inl (omega (arith, h, k))
key_trans (x ∷ xs) (y ∷ ys) (z ∷ zs) (inl h) (inr k) = inl (omega (arith, h, k.0))
key_trans (x ∷ xs) (y ∷ ys) (z ∷ zs) (inr h) (inl k) = inl (omega (arith, h.0, k))
key_trans (x ∷ xs) (y ∷ ys) (z ∷ zs) (inr h) (inr k) = inr (h.0 ∙ k.0, key_trans xs ys zs h.1 k.1)

-- ---- by keys and constants
abbrev pub IsLesser : List ℕ → ℤ → List ℕ → ℤ → Type 0
IsLesser xs a ys b = Precedes xs ys ⊎ ((xs ≡ ys) × (a <ℤ b))

pub equal_by : (xs ys : List ℕ) (a b : ℤ) (P : Type 0) → xs ≡ ys → P ↔ (a <ℤ b) → P ↔ IsLesser xs a ys b
equal_by xs ys a b P e h = (λ p. inr (e, h.0 p), λ l. ⊎_elim (λ (k : Precedes xs ys). absurd (key_apart ys (subst (λ (zs : List ℕ). Precedes zs ys) e k))) (λ k. h.1 k.1) l)

pub not_lesser : (xs ys : List ℕ) (a b : ℤ) → Precedes ys xs → IsLesser xs a ys b → ⊥
not_lesser xs ys a b h (inl k) = key_apart xs (key_trans xs ys xs k h)
not_lesser xs ys a b h (inr k) = key_apart ys (subst (λ (zs : List ℕ). Precedes ys zs) k.0 h)

pub lesser_read : (P : Type 0) (xs us ys vs : List ℕ) (a d b e : ℤ) → xs ≡ us → ys ≡ vs → a ≡ d → b ≡ e → P ↔ IsLesser xs a ys b → P ↔ IsLesser us d vs e
lesser_read P xs us ys vs a d b e f g h k l =
    subst (λ (zs : List ℕ). P ↔ IsLesser zs d vs e) f (subst (λ (zs : List ℕ). P ↔ IsLesser xs d zs e) g (subst (λ (z : ℤ). P ↔ IsLesser xs z ys e) h (subst (λ (z : ℤ). P ↔ IsLesser xs a ys z) k l)))

-- ---- terms
chosen : (b : Bool) (t : ℕ × ℤ) (us vs : List (ℕ × ℤ)) → (if b then us ++ vs else t ∷ (us ++ vs)) ≡ (if b then us else t ∷ us) ++ vs
chosen true t us vs = refl
chosen false t us vs = refl

terms_joined : (v : ℕ) (xs ys : List ℤ) → terms_from v (xs ++ ys) ≡ terms_from v xs ++ terms_from (length xs + v) ys
terms_joined v [] ys = ap (λ (n : ℕ). terms_from n ys) (first v)
  where
    first : (v : ℕ) → v ≡ length {A = ℤ} [] + v
    first v = omega arith
terms_joined v (x ∷ xs) ys =
    let e = terms_joined (suc v) xs ys in
    let place : length xs + suc v ≡ length (x ∷ xs) + v = omega arith in
    ap (λ (ts : List (ℕ × ℤ)). if int_eq x (pos 0) then ts else (v, x) ∷ ts) (e ∙ ap (λ (n : ℕ). terms_from (suc v) xs ++ terms_from n ys) place)
    ∙ chosen (int_eq x (pos 0)) (v, x) (terms_from (suc v) xs) (terms_from (length (x ∷ xs) + v) ys)

terms_more : (cs : List ℤ) (i : ℕ) → i < length cs → terms_from 0 (take (i + 1) cs) ≡ terms_from 0 (take i cs) ++ terms_from i (get_or cs i (pos 0) ∷ [])
terms_more cs i lt =
    ap (λ (xs : List ℤ). terms_from 0 xs) (take_more cs i (pos 0) lt) ∙ terms_joined 0 (take i cs) (get_or cs i (pos 0) ∷ [])
    ∙ ap (λ (n : ℕ). terms_from 0 (take i cs) ++ terms_from n (get_or cs i (pos 0) ∷ [])) (taken cs i lt)
  where
    taken : (cs : List ℤ) (i : ℕ) → i < length cs → length (take i cs) + 0 ≡ i
    taken cs i lt = omega (arith, length-take i cs, lt)

pub terms_pushed : (cs : List ℤ) (ts now : List (ℕ × ℤ)) (i : ℕ) (x : ℤ) → i < length cs → ts ≡ terms_from 0 (take i cs) → x ≡ get_or cs i (pos 0) → now ≡ ts ++ terms_from i (x ∷ []) → now ≡ terms_from 0 (take (i + 1) cs)
terms_pushed cs ts now i x lt before read made =
    made ∙ ap (λ (us : List (ℕ × ℤ)). us ++ terms_from i (x ∷ [])) before ∙ ap (λ (z : ℤ). terms_from 0 (take i cs) ++ terms_from i (z ∷ [])) read ∙ sym (terms_more cs i lt)

-- coefficients of 0 are no terms
none_there : (v : ℕ) (xs : List ℤ) → ((i : ℕ) → get_or xs i (pos 0) ≡ pos 0) → terms_from v xs ≡ []
none_there v [] h = refl
none_there v (x ∷ xs) h = ap (λ (z : ℤ). if int_eq z (pos 0) then terms_from (suc v) xs else (v, z) ∷ terms_from (suc v) xs) (h 0) ∙ none_there (suc v) xs (λ i. h (suc i))

same_terms : (v : ℕ) (xs ys : List ℤ) → ((i : ℕ) → get_or xs i (pos 0) ≡ get_or ys i (pos 0)) → terms_from v xs ≡ terms_from v ys
same_terms v [] ys h = sym (none_there v ys (λ i. sym (h i)))
same_terms v (x ∷ xs) [] h = none_there v (x ∷ xs) h
same_terms v (x ∷ xs) (y ∷ ys) h =
    ap (λ (z : ℤ). if int_eq z (pos 0) then terms_from (suc v) xs else (v, z) ∷ terms_from (suc v) xs) (h 0)
    ∙ ap (λ (ts : List (ℕ × ℤ)). if int_eq y (pos 0) then ts else (v, y) ∷ ts) (same_terms (suc v) xs ys (λ i. h (suc i)))

-- the same coefficients have the same key
pub same_key : (a b : Linear) → ((v : ℕ) → coefficient_of a v ≡ coefficient_of b v) → key_of a ≡ key_of b
same_key a b h = ap (λ (ts : List (ℕ × ℤ)). length ts ∷ (map (λ (t : ℕ × ℤ). t.0) ts ++ map (λ (t : ℕ × ℤ). rank_of t.1) ts)) (same_terms 0 a.coefficients b.coefficients h)
