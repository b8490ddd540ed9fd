-- How long a ruler is, and that it has one greatest mark.
use Rattle.std.specs.Prelude.{◌≡◌, ◌⊎◌, ℕ, zero, suc, ◌+◌, ◌<◌, ◌^◌, List, [], ◌∷◌, ◌++◌, length, All, ⊤}
use Rattle.std.proofs.Common.{arith, inl, inr, refl, ap, ◌∙◌, subst}
use Rattle.std.proofs.Math.Nat.{two-pow-succ}
use Rattle.std.proofs.lemmas.Bool.{cases_eq}
use Rattle.std.proofs.lemmas.List.{length-append}
use Rattle.std.proofs.lemmas.List.Elements.{All-head, All-tail}
use Rattle.solver_paths.specs.Rulers.{NoReturn, IsRuler}

-- each number of the list is below n
abbrev pub Below : ℕ → List ℕ → Type 0
Below n [] = ⊤
Below n (k ∷ ks) = (k < n) × Below n ks

pub from_all : (n : ℕ) (ks : List ℕ) → All (λ (k : ℕ). k < n) ks → Below n ks
from_all n [] h = tt
from_all n (k ∷ ks) h = (All-head (λ (j : ℕ). j < n) k ks h, from_all n ks (All-tail (λ (j : ℕ). j < n) k ks h))

-- ---- cutting a list at the first n
pub record Cut (n : ℕ) (ks : List ℕ) : Type 0 where
  pub left : List ℕ
  pub right : List ℕ
  pub is : ks ≡ left ++ n ∷ right
  pub before : Below n left
  pub after : Below (suc n) right

pub cut : (n : ℕ) (ks : List ℕ) → Below (suc n) ks → Below n ks ⊎ Cut n ks
cut n [] h = inl tt
cut n (k ∷ ks) h = elim (cases_eq k n) [
  | inl same ↦ inr (record { left = []; right = ks; is = ap (λ z. z ∷ ks) same; before = tt; after = h.1 })
  | inr other ↦ behind other (cut n ks h.1)
]
  where
    behind : (k ≡ n → ⊥) → Below n ks ⊎ Cut n ks → Below n (k ∷ ks) ⊎ Cut n (k ∷ ks)
    behind other (inl all) = let lt : k < n = below other h.0 in inl (lt, all)
      where
        below : (k ≡ n → ⊥) → k < suc n → k < n
        below other lt = omega arith
    behind other (inr c) = let lt : k < n = below other h.0 in inr (record { left = k ∷ c.left; right = c.right; is = ap (λ zs. k ∷ zs) c.is; before = (lt, c.before); after = c.after })
      where
        below : (k ≡ n → ⊥) → k < suc n → k < n
        below other lt = omega arith

-- ---- parts of rulers
no_return_below : (n : ℕ) (ks : List ℕ) → NoReturn n ks → Below (suc n) ks → Below n ks
no_return_below n [] h b = tt
no_return_below n (k ∷ ks) h b = let lt : k < n = below h.0 b.0 in (lt, no_return_below n ks (h.1 lt) b.1)
  where
    below : (k ≡ n → ⊥) → k < suc n → k < n
    below other lt = omega arith

no_return_left : (k : ℕ) (xs ys : List ℕ) → NoReturn k (xs ++ ys) → NoReturn k xs
no_return_left k [] ys h = tt
no_return_left k (x ∷ xs) ys h = (h.0, λ lt. no_return_left k xs ys (h.1 lt))

pub ruler_left : (xs ys : List ℕ) → IsRuler (xs ++ ys) → IsRuler xs
ruler_left [] ys h = tt
ruler_left (x ∷ xs) ys h = (no_return_left x xs ys h.0, ruler_left xs ys h.1)

pub ruler_right : (xs ys : List ℕ) → IsRuler (xs ++ ys) → IsRuler ys
ruler_right [] ys h = h
ruler_right (x ∷ xs) ys h = ruler_right xs ys h.1

-- behind the first of the greatest, all are lower
pub cut_after : (n : ℕ) (ks : List ℕ) → IsRuler ks → (c : Cut n ks) → Below n c.right
cut_after n ks ruler c = no_return_below n c.right (ruler_right c.left (n ∷ c.right) (subst IsRuler c.is ruler)).0 c.after

-- ---- the length
pub short : (n : ℕ) (ks : List ℕ) → Below n ks → IsRuler ks → length ks < 2 ^ n
short zero [] b ruler = omega arith
short zero (k ∷ ks) b ruler = absurd (impossible b.0)
  where
    impossible : k < 0 → ⊥
    impossible lt = omega arith
short (suc n) ks b ruler = elim (cut n ks b) [
  | inl all ↦ within (short n ks all ruler)
  | inr c ↦ joined c (short n c.left c.before) (short n c.right (cut_after n ks ruler c))
]
  where
    within : length ks < 2 ^ n → length ks < 2 ^ suc n
    within lt = rw (two-pow-succ n) (omega arith)

    joined : (c : Cut n ks) → (IsRuler c.left → length c.left < 2 ^ n) → (IsRuler c.right → length c.right < 2 ^ n) → length ks < 2 ^ suc n
    joined c short_left short_right =
        let all : IsRuler (c.left ++ n ∷ c.right) = subst IsRuler c.is ruler in
        let left = short_left (ruler_left c.left (n ∷ c.right) all) in
        let right = short_right (ruler_right c.left (n ∷ c.right) all).1 in
        let size : length ks ≡ length c.left + suc (length c.right) = ap length c.is ∙ length-append c.left (n ∷ c.right) in
        rw (two-pow-succ n) (omega arith)

-- ---- the greatest mark
pub record Peak (ks : List ℕ) : Type 0 where
  pub left : List ℕ
  pub greatest : ℕ
  pub right : List ℕ
  pub is : ks ≡ left ++ greatest ∷ right
  pub before : Below greatest left
  pub after : Below greatest right

pub peak : (n : ℕ) (ks : List ℕ) → Below n ks → IsRuler ks → (ks ≡ [] → ⊥) → Peak ks
peak zero [] b ruler some = absurd (some refl)
peak zero (k ∷ ks) b ruler some = absurd (impossible b.0)
  where
    impossible : k < 0 → ⊥
    impossible lt = omega arith
peak (suc n) ks b ruler some = elim (cut n ks b) [
  | inl all ↦ peak n ks all ruler some
  | inr c ↦ record { left = c.left; greatest = n; right = c.right; is = c.is; before = c.before; after = cut_after n ks ruler c }
]
