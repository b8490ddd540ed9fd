-- Tests of the elements of lists, and what a search finds.
use Rattle.std.proofs.Common.{◌≡◌, ◌⊎◌, Bool, true, false, ◌||◌, ◌&&◌, cond, List, [], ◌∷◌, ◌++◌, Some, None, is_some, true≢false, refl, sym, ap, ◌∙◌, Contains, find, filter, flat_map, slice_get}
use Rattle.std.specs.List.{list_any}
use Rattle.std.proofs.lemmas.Bool.{or_left, or_right, or_cases, false_from_ne_true}
use Rattle.std.proofs.lemmas.List.Folds.{list_any-append, Any-from_list_any, list_any-from_Any}
use Rattle.common_laws.proofs.Members.{contains_head, contains_tail}

module _ {A : Type 0} (p : A → Bool) where
  -- ---- members that pass

  pub any_in : (xs : List A) (x : A) → Contains xs x → p x ≡ true → list_any p xs ≡ true
  any_in xs x h t = list_any-from_Any p xs (h.0, x, h.1, h.2, t)

  pub any_has : (xs : List A) → list_any p xs ≡ true → (x : A) × Contains xs x × (p x ≡ true)
  any_has xs h = let at = Any-from_list_any p xs h in (at.1, (at.0, at.2, at.3), at.4)

  -- ---- one list behind another

  pub any_left : (xs ys : List A) → list_any p xs ≡ true → list_any p (xs ++ ys) ≡ true
  any_left xs ys h = list_any-append p xs ys ∙ or_left (list_any p xs) (list_any p ys) h

  pub any_right : (xs ys : List A) → list_any p ys ≡ true → list_any p (xs ++ ys) ≡ true
  any_right xs ys h = list_any-append p xs ys ∙ or_right (list_any p xs) (list_any p ys) h

  pub any_either : (xs ys : List A) → list_any p (xs ++ ys) ≡ true → (list_any p xs ≡ true) ⊎ (list_any p ys ≡ true)
  any_either xs ys h = or_cases (list_any p xs) (list_any p ys) (sym (list_any-append p xs ys) ∙ h)

  pub any_flat : {B : Type 0} (f : B → List A) (xs : List B) → list_any p (flat_map f xs) ≡ list_any (λ x. list_any p (f x)) xs
  any_flat f [] = refl
  any_flat f (x ∷ xs) = list_any-append p (f x) (flat_map f xs) ∙ ap (λ b. list_any p (f x) || b) (any_flat f xs)

  -- ---- another test

  pub any_each : (q : A → Bool) → ((x : A) → p x ≡ q x) → (xs : List A) → list_any p xs ≡ list_any q xs
  any_each q h [] = refl
  any_each q h (x ∷ xs) = rw (h x, any_each q h xs) refl

  pub find_each : (q : A → Bool) → ((x : A) → p x ≡ q x) → (xs : List A) → find p xs ≡ find q xs
  find_each q h [] = refl
  find_each q h (x ∷ xs) = rw (h x, find_each q h xs) refl

  pub any_filter : (q : A → Bool) (xs : List A) → list_any p (filter q xs) ≡ list_any (λ x. q x && p x) xs
  any_filter q [] = refl
  any_filter q (x ∷ xs) =
      elim (q x) as (λ b. list_any p (cond b (x ∷ filter q xs) (filter q xs)) ≡ ((b && p x) || list_any (λ y. q y && p y) xs)) [
        | true ↦ ap (λ b. p x || b) (any_filter q xs)
        | false ↦ any_filter q xs
      ]

  pub filter_twice : (q r : A → Bool) → ((x : A) → r x ≡ (p x && q x)) → (xs : List A) → filter q (filter p xs) ≡ filter r xs
  filter_twice q r h [] = refl
  filter_twice q r h (x ∷ xs) =
      rw (h x)
      (elim (p x) as (λ b. filter q (cond b (x ∷ filter p xs) (filter p xs)) ≡ cond (b && q x) (x ∷ filter r xs) (filter r xs)) [
        | true ↦ ap (λ l. cond (q x) (x ∷ l) l) (filter_twice q r h xs)
        | false ↦ filter_twice q r h xs
      ])

  -- ---- the first that passes

  pub any_find : (xs : List A) → list_any p xs ≡ is_some (find p xs)
  any_find [] = refl
  any_find (x ∷ xs) = elim (p x) as (λ b. (b || list_any p xs) ≡ is_some (cond b (Some x) (find p xs))) [ true ↦ refl | false ↦ any_find xs ]

  pub find_filter : (xs : List A) → find p xs ≡ slice_get (filter p xs) 0
  find_filter [] = refl
  find_filter (x ∷ xs) =
      elim (p x) as (λ b. cond b (Some x) (find p xs) ≡ slice_get (cond b (x ∷ filter p xs) (filter p xs)) 0) [
        | true ↦ refl
        | false ↦ find_filter xs
      ]

  pub find_none : (xs : List A) → find p xs ≡ None → list_any p xs ≡ false
  find_none xs h = any_find xs ∙ ap is_some h

  -- where none is found, no member passes
  pub find_misses : (xs : List A) (x : A) → find p xs ≡ None → Contains xs x → p x ≡ false
  find_misses xs x h there = false_from_ne_true (p x) (λ t. true≢false (sym (any_in xs x there t) ∙ find_none xs h))

  found_at : (x : A) (xs : List A) (d : A) (b : Bool) → p x ≡ b → cond b (Some x) (find p xs) ≡ Some d → (find p xs ≡ Some d → Contains xs d × (p d ≡ true)) → Contains (x ∷ xs) d × (p d ≡ true)
  found_at x xs d true e h later = let same : x ≡ d = cc in rw (← same) (contains_head x xs, e)
  found_at x xs d false e h later = let rest = later h in (contains_tail x xs d rest.0, rest.1)

  -- what is found is a member that passes
  pub find_some : (xs : List A) (d : A) → find p xs ≡ Some d → Contains xs d × (p d ≡ true)
  find_some [] d h = absurd cc
  find_some (x ∷ xs) d h = found_at x xs d (p x) refl h (find_some xs d)
