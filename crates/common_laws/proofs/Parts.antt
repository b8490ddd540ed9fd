-- The front of a list and what is left of it.
use Rattle.std.proofs.Common.{◌≡◌, ℕ, suc, ◌+◌, ◌-◌, ◌<◌, List, [], ◌∷◌, ◌++◌, length, take, drop, get_or, Contains, arith, sym, ap, ◌∙◌}
use Rattle.std.proofs.lemmas.List.{length-take-le, length-drop, get_or-take, get_or-drop, drop_more, take_more}

module _ {A : Type 0} where
  -- one element on
  pub drop_next : (xs : List A) (i : ℕ) (x d : A) → i < length xs → x ≡ get_or xs i d → drop i xs ≡ x ∷ drop (i + 1) xs
  drop_next xs i x d lt e = drop_more xs i d lt ∙ ap (λ y. y ∷ drop (i + 1) xs) (sym e)

  pub take_next : (xs : List A) (i : ℕ) (x d : A) → i < length xs → x ≡ get_or xs i d → take (i + 1) xs ≡ take i xs ++ x ∷ []
  take_next xs i x d lt e = take_more xs i d lt ∙ ap (λ y. take i xs ++ y ∷ []) (sym e)

  -- members before and behind a place
  pub in_take : (k j : ℕ) (ys : List A) (u : A) → k < length ys → j < k → get_or ys j u ≡ u → Contains (take k ys) u
  in_take k j ys u within lt e = (j, omega (arith, length-take-le k ys (omega arith)), get_or-take k ys j u lt ∙ e)

  pub in_drop : (k j : ℕ) (ys : List A) (u : A) → j < length ys → k < j → get_or ys j u ≡ u → Contains (drop (suc k) ys) u
  in_drop k j ys u within lt e =
      let there : suc k + (j - suc k) ≡ j = omega arith in
      (j - suc k, omega (arith, length-drop (suc k) ys), get_or-drop (suc k) ys (j - suc k) u ∙ (ap (λ (i : ℕ). get_or ys i u) there ∙ e))
