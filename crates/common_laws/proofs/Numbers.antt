-- Numbers in a list, by the test that looks for one.
use Rattle.std.proofs.Common.{◌≡◌, inl, inr, ℕ, ◌<◌, true, false, List, [], ◌∷◌, length, get_or, refl, ◌∙◌, nat_eq, Contains, flat_map}
use Rattle.std.specs.List.{list_any}
use Rattle.std.proofs.lemmas.Bool.{eqb-true, eq-eqb, or_cases, or_left, or_right}
use Rattle.std.proofs.lemmas.List.{get_or_default}
use Rattle.std.proofs.lemmas.List.Folds.{list_any_at}
use Rattle.common_laws.proofs.Members.{in_flat, from_flat}
use Rattle.common_laws.proofs.Tests.{any_in, any_has}

pub contains_listed : (d : ℕ) (xs : List ℕ) → Contains xs d → list_any (nat_eq d) xs ≡ true
contains_listed d xs h = any_in (nat_eq d) xs d h (eq-eqb d d refl)

pub listed_contains : (d : ℕ) (xs : List ℕ) → list_any (nat_eq d) xs ≡ true → Contains xs d
listed_contains d xs h = let at = any_has (nat_eq d) xs h in rw (eqb-true d at.0 at.2) at.1

-- ---- places

pub place_listed : (xs : List ℕ) (k d : ℕ) → k < length xs → list_any (nat_eq (get_or xs k d)) xs ≡ true
place_listed xs k d lt = list_any_at (nat_eq (get_or xs k d)) xs k d lt (eq-eqb (get_or xs k d) (get_or xs k d) refl)

pub listed_place : (d : ℕ) (xs : List ℕ) (e : ℕ) → list_any (nat_eq d) xs ≡ true → (i : ℕ) × (i < length xs) × (get_or xs i e ≡ d)
listed_place d xs e h = let at = listed_contains d xs h in (at.0, at.1, get_or_default xs at.0 e d at.1 ∙ at.2)

-- ---- one after another

pub head_listed : (x : ℕ) (xs : List ℕ) → list_any (nat_eq x) (x ∷ xs) ≡ true
head_listed x xs = or_left (nat_eq x x) (list_any (nat_eq x) xs) (eq-eqb x x refl)

pub tail_listed : (d x : ℕ) (xs : List ℕ) → list_any (nat_eq d) xs ≡ true → list_any (nat_eq d) (x ∷ xs) ≡ true
tail_listed d x xs h = or_right (nat_eq d x) (list_any (nat_eq d) xs) h

pub one_listed : (d c : ℕ) → list_any (nat_eq d) (c ∷ []) ≡ true → d ≡ c
one_listed d c h = elim (or_cases (nat_eq d c) false h) [ inl same ↦ eqb-true d c same | inr never ↦ absurd cc ]

-- ---- lists that are made of others

pub flat_listed : (d : ℕ) (f : ℕ → List ℕ) (xs : List ℕ) (j : ℕ) → list_any (nat_eq j) xs ≡ true → list_any (nat_eq d) (f j) ≡ true → list_any (nat_eq d) (flat_map f xs) ≡ true
flat_listed d f xs j h k = contains_listed d (flat_map f xs) (in_flat f xs j d (listed_contains j xs h) (listed_contains d (f j) k))

pub listed_flat : (d : ℕ) (f : ℕ → List ℕ) (xs : List ℕ) → list_any (nat_eq d) (flat_map f xs) ≡ true → (j : ℕ) × (list_any (nat_eq j) xs ≡ true) × (list_any (nat_eq d) (f j) ≡ true)
listed_flat d f xs h = let from = from_flat f xs d (listed_contains d (flat_map f xs) h) in (from.0, contains_listed from.0 xs from.1, contains_listed d (f from.0) from.2)
