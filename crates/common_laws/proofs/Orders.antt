-- Lists in an order: their members determine them.
use Rattle.std.proofs.Common.{◌≡◌, inl, inr, suc, List, [], ◌∷◌, AllPairs, Contains, arith, refl, sym, ap, subst, ◌∙◌}
use Rattle.common_laws.proofs.Members.{contains_head, contains_tail, contains_cases, contains_none}

-- two lists with the same members
abbrev pub HaveSame : {A : Type 0} → List A → List A → Type 0
HaveSame {A} xs ys = (u : A) → (Contains xs u → Contains ys u) × (Contains ys u → Contains xs u)

module _ {A : Type 0} (R : A → A → Type 0) where
  pub head_before : (x : A) (xs : List A) (u : A) → AllPairs R (x ∷ xs) → Contains xs u → R x u
  head_before x xs u h c = subst (λ v. R x v) c.2 (h 0 (suc c.0) u (omega arith) (omega (arith, c.1)))

  pub tail_pairs : (x : A) (xs : List A) → AllPairs R (x ∷ xs) → AllPairs R xs
  tail_pairs x xs h = λ i j d lt within. h (suc i) (suc j) d (omega arith) (omega arith)

module _ {A : Type 0} (R : A → A → Type 0) (not_both : (a b : A) → R a b → R b a → ⊥) where
  same_head : (x y : A) (xs ys : List A) → AllPairs R (x ∷ xs) → AllPairs R (y ∷ ys) → Contains (y ∷ ys) x → Contains (x ∷ xs) y → x ≡ y
  same_head x y xs ys hx hy cx cy = elim (contains_cases y ys x cx) [
    | inl e ↦ sym e
    | inr d ↦ elim (contains_cases x xs y cy) [
      | inl e ↦ e
      | inr f ↦ absurd (not_both y x (head_before R y ys x hy d) (head_before R x xs y hx f))
    ]
  ]

  tail_in : (x : A) (xs ys : List A) (u : A) → AllPairs R (x ∷ xs) → Contains xs u → Contains (x ∷ ys) u → Contains ys u
  tail_in x xs ys u h c d = elim (contains_cases x ys u d) [
    | inl e ↦ let itself : R u u = subst (λ v. R v u) e (head_before R x xs u h c) in absurd (not_both u u itself itself)
    | inr f ↦ f
  ]

  tails_same : (x : A) (xs ys : List A) → AllPairs R (x ∷ xs) → AllPairs R (x ∷ ys) → HaveSame (x ∷ xs) (x ∷ ys) → HaveSame xs ys
  tails_same x xs ys hx hy same = λ u. (λ c. tail_in x xs ys u hx c ((same u).0 (contains_tail x xs u c)), λ c. tail_in x ys xs u hy c ((same u).1 (contains_tail x ys u c)))

  pub one_list : (xs ys : List A) → AllPairs R xs → AllPairs R ys → HaveSame xs ys → xs ≡ ys
  one_list [] [] hx hy same = refl
  one_list [] (y ∷ ys) hx hy same = absurd (contains_none y ((same y).1 (contains_head y ys)))
  one_list (x ∷ xs) [] hx hy same = absurd (contains_none x ((same x).0 (contains_head x xs)))
  one_list (x ∷ xs) (y ∷ ys) hx hy same =
      let e : x ≡ y = same_head x y xs ys hx hy ((same x).0 (contains_head x xs)) ((same y).1 (contains_head y ys)) in
      let hz : AllPairs R (x ∷ ys) = subst (λ z. AllPairs R (z ∷ ys)) (sym e) hy in
      let sz : HaveSame (x ∷ xs) (x ∷ ys) = subst (λ z. HaveSame (x ∷ xs) (z ∷ ys)) (sym e) same in
      let rest : xs ≡ ys = one_list xs ys (tail_pairs R x xs hx) (tail_pairs R x ys hz) (tails_same x xs ys hx hz sz) in
      ap (λ z. z ∷ xs) e ∙ ap (λ zs. y ∷ zs) rest
