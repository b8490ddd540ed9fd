-- Lists without repeat.
use Rattle.std.proofs.Common.{◌≡◌, ◌⊎◌, inl, inr, ℕ, suc, ◌<◌, ◌≤◌, List, [], ◌∷◌, ◌++◌, length, take, drop, get_or, AllPairs, Contains, arith, sym, ap, ◌∙◌}
use Rattle.std.proofs.lemmas.Bool.{cases_lt, cases_eq}
use Rattle.std.proofs.lemmas.List.{length-append, length-take-le, length-drop, get_or_default}
use Rattle.std.proofs.lemmas.List.Elements.{Contains-append_left, Contains-append_right}
use Rattle.common_laws.proofs.Parts.{in_take, in_drop}
use Rattle.common_laws.proofs.Members.{contains_head, contains_tail}

module _ {A : Type 0} where
  -- the list without its k-th element
  without : ℕ → List A → List A
  without k ys = take k ys ++ drop (suc k) ys

  length_without : (k : ℕ) (ys : List A) → k < length ys → suc (length (without k ys)) ≡ length ys
  unfolding without
  length_without k ys lt = omega (arith, length-append (take k ys) (drop (suc k) ys), length-take-le k ys (omega arith), length-drop (suc k) ys)

  still_in : (k j : ℕ) (ys : List A) (x u : A) → k < length ys → get_or ys k x ≡ x → j < length ys → get_or ys j u ≡ u → (x ≡ u → ⊥) → (j < k) ⊎ (k ≤ j) → Contains (without k ys) u
  unfolding without
  still_in k j ys x u within here lt e other (inl before) = Contains-append_left (take k ys) (drop (suc k) ys) u (in_take k j ys u within before e)
  still_in k j ys x u within here lt e other (inr after) =
      elim (cases_eq j k) [
        | inl same ↦
            let at : get_or ys k u ≡ u = ap (λ (i : ℕ). get_or ys i u) (sym same) ∙ e in
            absurd (other (sym here ∙ (get_or_default ys k x u within ∙ at)))
        | inr apart ↦ Contains-append_right (take k ys) (drop (suc k) ys) u (in_drop k j ys u lt (omega arith) e)
      ]

  -- a list without repeat whose members are all in another is not longer than it
  pub no_longer : (xs ys : List A) → AllPairs (λ (a b : A). ¬ (a ≡ b)) xs → ((u : A) → Contains xs u → Contains ys u) → length xs ≤ length ys
  no_longer [] ys once inside = omega arith
  no_longer (x ∷ xs) ys once inside =
      let at = inside x (contains_head x xs) in
      let less = length_without at.0 ys at.1 in
      let rest = no_longer xs (without at.0 ys) (λ i j d lt within. once (suc i) (suc j) d (omega arith) (omega arith))
      (λ u h.
      let there = inside u (contains_tail x xs u h) in
      still_in at.0 there.0 ys x u at.1 at.2 there.1 there.2
      (λ same. once 0 (suc h.0) u (omega arith) (omega (arith, h.1)) (same ∙ sym h.2))
      (cases_lt there.0 at.0)) in
      omega arith
