-- The place of the first element that passes a test.
use Rattle.std.proofs.Common.{◌≡◌, ℕ, ◌+◌, ◌<◌, Bool, true, false, cond, nat_lt, List, [], ◌∷◌, ◌++◌, length, map, get_or, Option, Some, None, is_some, arith, refl, ap, ◌∙◌}
use Rattle.std.specs.Prelude.{◌||◌}
use Rattle.std.specs.List.{list_any, position, position_or_len}
use Rattle.std.proofs.lemmas.Bool.{lt-ltb, le-ltb}
use Rattle.std.proofs.lemmas.Grind.{common_steps}
use Rattle.std.proofs.lemmas.List.Folds.{position_or_len_push}
use Rattle.std.proofs.lemmas.List.Sums.{position_or_len_is, prefix_len-le-length}

module _ {A : Type 0} (p : A → Bool) where
  -- ---- one element in front

  pub position_hit : (x : A) (xs : List A) → p x ≡ true → position p (x ∷ xs) ≡ Some 0
  position_hit x xs h = grind (arith, common_steps)

  pub position_miss : (x : A) (xs : List A) → p x ≡ false → position p xs ≡ None → position p (x ∷ xs) ≡ None
  position_miss x xs h none = grind (arith, common_steps)

  pub position_behind : (x : A) (xs : List A) (i : ℕ) → p x ≡ false → position p xs ≡ Some i → position p (x ∷ xs) ≡ Some (i + 1)
  position_behind x xs i h there = grind (arith, common_steps)

  -- ---- where the first one stands

  pub position_at : (xs : List A) (i : ℕ) (d : A) → i < length xs → p (get_or xs i d) ≡ true → ((k : ℕ) → k < i → p (get_or xs k d) ≡ false) → position p xs ≡ Some i
  position_at xs i d lt here before =
      let first : position_or_len p xs ≡ i = position_or_len_is p xs i d (omega arith) before (λ inside. here) in
      ap (λ n. cond (nat_lt n (length xs)) (Some n) None) first ∙ ap (λ b. cond b (Some i) None) (lt-ltb i (length xs) lt)

  pub position_nowhere : (xs : List A) (d : A) → ((k : ℕ) → k < length xs → p (get_or xs k d) ≡ false) → position p xs ≡ None
  position_nowhere xs d none =
      let past : position_or_len p xs ≡ length xs = position_or_len_is p xs (length xs) d (omega arith) none (λ inside. absurd (omega arith)) in
      ap (λ n. cond (nat_lt n (length xs)) (Some n) None) past ∙ ap (λ b. cond b (Some (length xs)) None) (le-ltb (length xs) (length xs) (omega arith))

  -- ---- tests of the whole list

  later_or : (x : A) (xs : List A) (o : Option ℕ) → p x ≡ false → position p xs ≡ o → list_any p xs ≡ is_some (position p xs) → list_any p (x ∷ xs) ≡ is_some (position p (x ∷ xs))
  later_or x xs None e f ih = rw (position_miss x xs e f) (ap (λ b. b || list_any p xs) e ∙ ih ∙ ap is_some f)
  later_or x xs (Some i) e f ih = rw (position_behind x xs i e f) (ap (λ b. b || list_any p xs) e ∙ ih ∙ ap is_some f)

  hit_or : (x : A) (xs : List A) (b : Bool) → p x ≡ b → list_any p xs ≡ is_some (position p xs) → list_any p (x ∷ xs) ≡ is_some (position p (x ∷ xs))
  hit_or x xs true e ih = rw (position_hit x xs e) (ap (λ b. b || list_any p xs) e)
  hit_or x xs false e ih = later_or x xs (position p xs) e refl ih

  pub position_any : (xs : List A) → list_any p xs ≡ is_some (position p xs)
  position_any [] = refl
  position_any (x ∷ xs) = hit_or x xs (p x) refl (position_any xs)

  -- ---- one element behind

  pub position_last : (xs : List A) (y : A) → p y ≡ true → position p xs ≡ None → position p (xs ++ y ∷ []) ≡ Some (length xs)
  position_last xs y e none = grind (arith, common_steps, position_or_len_push, prefix_len-le-length)

  pub position_push : (xs : List A) (y : A) → p y ≡ false → position p (xs ++ y ∷ []) ≡ position p xs
  position_push xs y e = grind (arith, common_steps, position_or_len_push, prefix_len-le-length)

map_head : {A B : Type 0} (f : A → B) (p : B → Bool) (x : A) (xs : List A) (b : Bool) → p (f x) ≡ b → position p (map f xs) ≡ position (λ y. p (f y)) xs → position p (f x ∷ map f xs) ≡ position (λ y. p (f y)) (x ∷ xs)
map_head f p x xs true e h = grind (arith, common_steps)
map_head f p x xs false e h = grind (arith, common_steps)

pub position_map : {A B : Type 0} (f : A → B) (p : B → Bool) (xs : List A) → position p (map f xs) ≡ position (λ x. p (f x)) xs
position_map f p [] = refl
position_map f p (x ∷ xs) = map_head f p x xs (p (f x)) refl (position_map f p xs)
