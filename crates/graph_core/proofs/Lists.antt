-- what a list of numbers has
use Rattle.std.proofs.Common.{◌≡◌, ◌≢◌, ◌⊎◌, ℕ, zero, suc, ◌<◌, List, [], ◌∷◌, length, get_or, Contains, refl, inl, inr, ⊎_elim, subst, arith}
use Rattle.std.proofs.lemmas.Bool.{cases_eq}
use Rattle.std.proofs.lemmas.List.Elements.{Contains-append_right}

contains_cons_at : (y : ℕ) (ys : List ℕ) (x k : ℕ) → k < length (y ∷ ys) → get_or (y ∷ ys) k x ≡ x → (y ≡ x) ⊎ Contains ys x
contains_cons_at y ys x zero l e = inl e
contains_cons_at y ys x (suc k) l e = inr (k, omega arith, e)

-- what a list has, its head is or its tail has
pub Contains-cons_cases : (y : ℕ) (ys : List ℕ) (x : ℕ) → Contains (y ∷ ys) x → (y ≡ x) ⊎ Contains ys x
Contains-cons_cases y ys x h = contains_cons_at y ys x h.0 h.1 h.2

pub Contains-tail : (y : ℕ) (ys : List ℕ) (x : ℕ) → Contains ys x → Contains (y ∷ ys) x
Contains-tail y ys x h = Contains-append_right (y ∷ []) ys x h

pub Contains-head : (y : ℕ) (ys : List ℕ) → Contains (y ∷ ys) y
Contains-head y ys = (0, omega arith, refl)

pub Contains-nil : (x : ℕ) → Contains [] x → ⊥
Contains-nil x h = let l = h.1 in omega arith

-- whether a list has a number
pub cases_Contains : (xs : List ℕ) (x : ℕ) → Contains xs x ⊎ (Contains xs x → ⊥)
cases_Contains [] x = inr (Contains-nil x)
cases_Contains (y ∷ ys) x = cases (cases_eq y x) (cases_Contains ys x)
  where
    cases : (y ≡ x) ⊎ (y ≢ x) → Contains ys x ⊎ (Contains ys x → ⊥) → Contains (y ∷ ys) x ⊎ (Contains (y ∷ ys) x → ⊥)
    cases (inl e) _ = inl (subst (Contains (y ∷ ys)) e (Contains-head y ys))
    cases (inr o) (inl h) = inl (Contains-tail y ys x h)
    cases (inr o) (inr n) = inr (λ h. ⊎_elim o n (Contains-cons_cases y ys x h))
