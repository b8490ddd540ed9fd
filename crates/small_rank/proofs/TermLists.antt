-- Functions of at most two sizes by their coefficients that aren't 0.
use Rattle.std.specs.Prelude.{◌≡◌, ◌⊎◌, ℕ, zero, suc, ◌+◌, ◌<◌, ◌≤◌, ℤ, pos, negsuc, List, [], ◌∷◌, length, replicate, All, slice_set, Result, Ok, Err, IfOk}
use Rattle.std.proofs.Common.{arith, refl, sym, ap, ◌∙◌, subst, inl, inr}
use Rattle.lin_rows.specs.Linear.{Linear}
use Rattle.small_cert.specs.Order.{terms_from, terms_of}
use Rattle.small_rank.specs.Ranking.{IsFunction, zero_of}
use Rattle.small_rank.specs.inside.Search.{IsSign}

zeros_terms : (n v : ℕ) → terms_from v (replicate n (pos 0)) ≡ []
zeros_terms zero v = refl
zeros_terms (suc n) v = zeros_terms n (suc v)

sign_first : (v : ℕ) (a : ℤ) (cs : List ℤ) → IsSign a → terms_from v (a ∷ cs) ≡ (v, a) ∷ terms_from (suc v) cs
sign_first v a cs (inl e) = subst (λ (z : ℤ). terms_from v (z ∷ cs) ≡ (v, z) ∷ terms_from (suc v) cs) (sym e) refl
sign_first v a cs (inr e) = subst (λ (z : ℤ). terms_from v (z ∷ cs) ≡ (v, z) ∷ terms_from (suc v) cs) (sym e) refl

one_terms : (n v i : ℕ) (a : ℤ) → i < n → IsSign a → terms_from v (slice_set (replicate n (pos 0)) i a) ≡ (v + i, a) ∷ []
one_terms zero v i a lt sign = absurd (omega (arith, lt))
one_terms (suc n) v zero a lt sign = sign_first v a (replicate n (pos 0)) sign ∙ ap (λ (ts : List (ℕ × ℤ)). (v, a) ∷ ts) (zeros_terms n (suc v)) ∙ ap (λ (i : ℕ). (i, a) ∷ []) (same v)
  where
    same : (v : ℕ) → v ≡ v + 0
    same v = omega arith
one_terms (suc n) v (suc i) a lt sign = one_terms n (suc v) i a (omega (arith, lt)) sign ∙ ap (λ (i : ℕ). (i, a) ∷ []) (same v i)
  where
    same : (v i : ℕ) → suc v + i ≡ v + suc i
    same v i = omega arith

two_terms : (n v i j : ℕ) (a b : ℤ) → i < j → j < n → IsSign a → IsSign b → terms_from v (slice_set (slice_set (replicate n (pos 0)) i a) j b) ≡ (v + i, a) ∷ (v + j, b) ∷ []
two_terms zero v i j a b lt k sign other = absurd (omega (arith, k))
two_terms (suc n) v i zero a b lt k sign other = absurd (omega (arith, lt))
two_terms (suc n) v zero (suc j) a b lt k sign other =
    sign_first v a (slice_set (replicate n (pos 0)) j b) sign ∙ ap (λ (ts : List (ℕ × ℤ)). (v, a) ∷ ts) (one_terms n (suc v) j b (omega (arith, k)) other) ∙ ap (λ (x : ℕ). (x, a) ∷ (suc v + j, b) ∷ []) (first v) ∙ ap (λ (y : ℕ). (v + 0, a) ∷ (y, b) ∷ []) (second v j)
  where
    first : (v : ℕ) → v ≡ v + 0
    first v = omega arith

    second : (v j : ℕ) → suc v + j ≡ v + suc j
    second v j = omega arith
two_terms (suc n) v (suc i) (suc j) a b lt k sign other =
    two_terms n (suc v) i j a b (omega (arith, lt)) (omega (arith, k)) sign other ∙ ap (λ (x : ℕ). (x, a) ∷ (suc v + j, b) ∷ []) (same v i) ∙ ap (λ (y : ℕ). (v + suc i, a) ∷ (y, b) ∷ []) (same v j)
  where
    same : (v i : ℕ) → suc v + i ≡ v + suc i
    same v i = omega arith

-- ---- what the code makes
length_zeros : (n : ℕ) → length (replicate n (pos 0)) ≡ n
length_zeros zero = refl
length_zeros (suc n) = ap suc (length_zeros n)

length_set : (xs : List ℤ) (i : ℕ) (a : ℤ) → length (slice_set xs i a) ≡ length xs
length_set [] i a = refl
length_set (x ∷ xs) zero a = refl
length_set (x ∷ xs) (suc i) a = ap suc (length_set xs i a)

abbrev pub Units : List (ℕ × ℤ) → Type 0
Units ts = All (λ (t : ℕ × ℤ). (t.1 ≡ pos 1) ⊎ (t.1 ≡ negsuc 0)) ts

one_unit : (i : ℕ) (a : ℤ) → IsSign a → Units ((i, a) ∷ [])
one_unit i a sign zero d lt = sign
one_unit i a sign (suc k) d lt = absurd (omega (arith, lt))

two_units : (i j : ℕ) (a b : ℤ) → IsSign a → IsSign b → Units ((i, a) ∷ (j, b) ∷ [])
two_units i j a b sign other zero d lt = sign
two_units i j a b sign other (suc zero) d lt = other
two_units i j a b sign other (suc (suc k)) d lt = absurd (omega (arith, lt))

made : (n : ℕ) (cs : List ℤ) (ts : List (ℕ × ℤ)) → length cs ≡ n → terms_from 0 cs ≡ ts → length ts ≤ 2 → Units ts → IsFunction n (record { coefficients = cs; constant = pos 0 }) × (terms_from 0 cs ≡ ts)
made n cs ts long is few units = (record { sizes = long; constant = refl; few = subst (λ (ts : List (ℕ × ℤ)). length ts ≤ 2) (sym is) few; units = subst (λ (ts : List (ℕ × ℤ)). Units ts) (sym is) units }, is)

abbrev pub IsMadeOf : ℕ → Linear → List (ℕ × ℤ) → Type 0
IsMadeOf n f ts = IsFunction n f × (terms_of f ≡ ts)

read : (n : ℕ) (f : Linear) (cs : List ℤ) (ts : List (ℕ × ℤ)) → f ≡ record { coefficients = cs; constant = pos 0 } → IsMadeOf n (record { coefficients = cs; constant = pos 0 }) ts → IsMadeOf n f ts
read n f cs ts e h = subst (λ (g : Linear). IsMadeOf n g ts) (sym e) h

pub zero_made : (n : ℕ) (f : Linear) → f ≡ zero_of n → IsMadeOf n f []
zero_made n f e = read n f (replicate n (pos 0)) [] e (made n (replicate n (pos 0)) [] (length_zeros n) (zeros_terms n 0) (omega arith) (λ k d lt. absurd (omega (arith, lt))))

from_zero : (i : ℕ) → 0 + i ≡ i
from_zero i = omega arith

pub one_made : (n i : ℕ) (a : ℤ) (f : Linear) → i < n → IsSign a → f ≡ record { coefficients = slice_set (replicate n (pos 0)) i a; constant = pos 0 } → IsMadeOf n f ((i, a) ∷ [])
one_made n i a f lt sign e =
    let cs = slice_set (replicate n (pos 0)) i a in
    read n f cs ((i, a) ∷ []) e (made n cs ((i, a) ∷ []) (length_set (replicate n (pos 0)) i a ∙ length_zeros n) (one_terms n 0 i a lt sign ∙ ap (λ (k : ℕ). (k, a) ∷ []) (from_zero i)) (omega arith) (one_unit i a sign))

pub two_made : (n i j : ℕ) (a b : ℤ) (f : Linear) → i < j → j < n → IsSign a → IsSign b → f ≡ record { coefficients = slice_set (slice_set (replicate n (pos 0)) i a) j b; constant = pos 0 } → IsMadeOf n f ((i, a) ∷ (j, b) ∷ [])
two_made n i j a b f lt k sign other e =
    let cs = slice_set (slice_set (replicate n (pos 0)) i a) j b in
    read n f cs ((i, a) ∷ (j, b) ∷ []) e (made n cs ((i, a) ∷ (j, b) ∷ []) (length_set (slice_set (replicate n (pos 0)) i a) j b ∙ length_set (replicate n (pos 0)) i a ∙ length_zeros n) (two_terms n 0 i j a b lt k sign other ∙ ap (λ (x : ℕ). (x, a) ∷ (0 + j, b) ∷ []) (from_zero i) ∙ ap (λ (y : ℕ). (i, a) ∷ (y, b) ∷ []) (from_zero j)) (omega arith) (two_units i j a b sign other))

pub made_ok : {E : Type 0} (P : Linear → Type 0) (r : Result Linear E) (f : Linear) → P f → IfOk r (λ l. l ≡ f) → IfOk r P
made_ok P (Ok l) f p e = subst P (sym e) p
made_ok P (Err x) f p e = tt
