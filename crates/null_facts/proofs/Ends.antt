-- What is made of two lists side by side, at the end of one of them.
use Rattle.std.proofs.Common.{◌≡◌, List, [], ◌∷◌, ◌++◌, length, refl, sym, ap, ◌∙◌, arith, flat_map}
use Rattle.std.specs.List.{zip}
use Rattle.std.proofs.lemmas.List.{append-nil}

module _ {A B C : Type 0} (f : A × B → List C) where
  none_left : (xs : List A) (ys : List B) → length xs ≡ 0 → flat_map f (zip xs ys) ≡ []
  none_left [] ys e = refl
  none_left (x ∷ xs) ys e = absurd (omega (arith, e))

  none_right : (xs : List A) (ys : List B) → length ys ≡ 0 → flat_map f (zip xs ys) ≡ []
  none_right [] ys e = refl
  none_right (x ∷ xs) [] e = refl
  none_right (x ∷ xs) (y ∷ ys) e = absurd (omega (arith, e))

  done_before : (list rest whole : List C) → rest ≡ [] → list ++ rest ≡ whole → list ≡ whole
  done_before list rest whole e h = sym (append-nil list) ∙ ap (λ (xs : List C). list ++ xs) (sym e) ∙ h

  pub first_ended : (list : List C) (xs : List A) (ys : List B) (whole : List C) → length xs ≡ 0 → list ++ flat_map f (zip xs ys) ≡ whole → list ≡ whole
  first_ended list xs ys whole e h = done_before list (flat_map f (zip xs ys)) whole (none_left xs ys e) h

  pub second_ended : (list : List C) (xs : List A) (ys : List B) (whole : List C) → length ys ≡ 0 → list ++ flat_map f (zip xs ys) ≡ whole → list ≡ whole
  second_ended list xs ys whole e h = done_before list (flat_map f (zip xs ys)) whole (none_right xs ys e) h
