-- Members of lists, and of lists that are made of others.
use Rattle.std.proofs.Common.{◌≡◌, ◌⊎◌, inl, inr, ℕ, zero, suc, ◌<◌, List, [], ◌∷◌, length, map, get_or, slice_get, Some, arith, refl, sym, ap, subst, ◌∙◌, Contains, flat_map}
use Rattle.std.proofs.lemmas.List.Elements.{Contains-append_left, Contains-append_right, Contains-append_cases}
use Rattle.std.proofs.lemmas.Option.{slice_get_within, slice_get-get_or, get_or_from_slice_get}

module _ {A : Type 0} where
  pub contains_head : (x : A) (xs : List A) → Contains (x ∷ xs) x
  contains_head x xs = (0, omega arith, refl)

  pub contains_tail : (x : A) (xs : List A) (u : A) → Contains xs u → Contains (x ∷ xs) u
  contains_tail x xs u h = (suc h.0, omega (arith, h.1), h.2)

  cases_at : (x : A) (xs : List A) (u : A) (k : ℕ) → k < length (x ∷ xs) → get_or (x ∷ xs) k u ≡ u → (x ≡ u) ⊎ Contains xs u
  cases_at x xs u zero lt e = inl e
  cases_at x xs u (suc k) lt e = inr (k, omega arith, e)

  pub contains_cases : (x : A) (xs : List A) (u : A) → Contains (x ∷ xs) u → (x ≡ u) ⊎ Contains xs u
  contains_cases x xs u h = cases_at x xs u h.0 h.1 h.2

  pub contains_none : (u : A) → Contains [] u → ⊥
  contains_none u h = let l = h.1 in omega arith

  -- a member by its place
  pub contains_at : (xs : List A) (i : ℕ) (x : A) → slice_get xs i ≡ Some x → Contains xs x
  contains_at xs i x e = (i, slice_get_within xs i x e, get_or_from_slice_get xs i x x e)

  pub place_of : (xs : List A) (x : A) → (h : Contains xs x) → slice_get xs h.0 ≡ Some x
  place_of xs x h = slice_get-get_or xs h.0 x h.1 ∙ ap Some h.2

module _ {A B : Type 0} (f : A → B) where
  pub in_map : (xs : List A) (a : A) → Contains xs a → Contains (map f xs) (f a)
  in_map [] a h = absurd (contains_none a h)
  in_map (x ∷ xs) a h =
      elim (contains_cases x xs a h) [
        | inl same ↦ subst (λ y. Contains (f x ∷ map f xs) (f y)) same (contains_head (f x) (map f xs))
        | inr later ↦ contains_tail (f x) (map f xs) (f a) (in_map xs a later)
      ]

  pub from_map : (xs : List A) (b : B) → Contains (map f xs) b → (a : A) × Contains xs a × (f a ≡ b)
  from_map [] b h = absurd (contains_none b h)
  from_map (x ∷ xs) b h =
      elim (contains_cases (f x) (map f xs) b h) [
        | inl same ↦ (x, contains_head x xs, same)
        | inr later ↦ let rest = from_map xs b later in (rest.0, contains_tail x xs rest.0 rest.1, rest.2)
      ]

  pub map_same : (g : A → B) (xs : List A) → ((x : A) → Contains xs x → f x ≡ g x) → map f xs ≡ map g xs
  map_same g [] same = refl
  map_same g (x ∷ xs) same =
      ap (λ (y : B). y ∷ map f xs) (same x (contains_head x xs)) ∙ ap (λ (ys : List B). g x ∷ ys) (map_same g xs (λ y h. same y (contains_tail x xs y h)))

module _ {A B : Type 0} (f : A → List B) where
  pub in_flat : (xs : List A) (a : A) (b : B) → Contains xs a → Contains (f a) b → Contains (flat_map f xs) b
  in_flat [] a b h g = absurd (contains_none a h)
  in_flat (x ∷ xs) a b h g =
      elim (contains_cases x xs a h) [
        | inl same ↦ Contains-append_left (f x) (flat_map f xs) b (subst (λ y. Contains (f y) b) (sym same) g)
        | inr later ↦ Contains-append_right (f x) (flat_map f xs) b (in_flat xs a b later g)
      ]

  pub from_flat : (xs : List A) (b : B) → Contains (flat_map f xs) b → (a : A) × Contains xs a × Contains (f a) b
  from_flat [] b h = absurd (contains_none b h)
  from_flat (x ∷ xs) b h =
      elim (Contains-append_cases (f x) (flat_map f xs) b h) [
        | inl here ↦ (x, contains_head x xs, here)
        | inr later ↦ let rest = from_flat xs b later in (rest.0, contains_tail x xs rest.0 rest.1, rest.2)
      ]
