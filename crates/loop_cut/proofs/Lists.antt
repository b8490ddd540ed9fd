-- Members of lists, and of parts of them.
use Rattle.std.proofs.Common.{◌≡◌, ◌↔◌, inl, inr, ℕ, zero, suc, ◌+◌, ◌-◌, ◌<◌, ◌≤◌, Bool, IsTrue, true, false, List, [], ◌∷◌, ◌++◌, take, drop, length, get_or, flat_map, Option, Some, None, refl, sym, ap, subst, ◌∙◌, arith, append_assoc}
use Rattle.std.specs.Prelude.{Contains, nat_eq, slice_get}
use Rattle.std.specs.List.{list_any}
use Rattle.std.proofs.lemmas.List.{take_all, flat_map_more}
use Rattle.common_laws.proofs.Parts.{take_next}
use Rattle.std.proofs.lemmas.List.Elements.{Contains-append_left, Contains-append_right, Contains-append_cases}
use Rattle.common_laws.proofs.Members.{contains_head, contains_tail, contains_cases, contains_none}
use Rattle.common_laws.proofs.Numbers.{contains_listed, listed_contains}
use Rattle.loop_cut.specs.inside.Gathered.{IsLeastOf}

same_test : (b c : Bool) → (b ≡ true → c ≡ true) → (c ≡ true → b ≡ true) → b ≡ c
same_test true c h k = sym (h refl)
same_test false true h k = k refl
same_test false false h k = refl

pub is_listed : (b : Bool) (xs : List ℕ) (x : ℕ) → IsTrue b ↔ Contains xs x → b ≡ list_any (nat_eq x) xs
is_listed b xs x h =
    same_test b (list_any (nat_eq x) xs) (λ t. contains_listed x xs (h.0 t)) (λ t. h.1 (listed_contains x xs t))

-- ---- parts of lists

module _ {A : Type 0} where
  pub take_from : (n : ℕ) (xs : List A) (x : A) → Contains (take n xs) x → (k : ℕ) × (k < n) × (slice_get xs k ≡ Some x)
  take_from zero xs x c = absurd (contains_none x c)
  take_from (suc n) [] x c = absurd (contains_none x c)
  take_from (suc n) (y ∷ ys) x c = elim (contains_cases y (take n ys) x c) [
    | inl same ↦ (0, omega arith, ap (λ (z : A). Some z) same)
    | inr later ↦ let h = take_from n ys x later in let lt = h.1 in (suc h.0, omega arith, h.2)
  ]

  pub take_has : (n k : ℕ) (xs : List A) (x : A) → k < n → slice_get xs k ≡ Some x → Contains (take n xs) x
  take_has zero k xs x lt e = absurd (omega arith)
  take_has (suc n) k [] x lt e = let none : None ≡ Some x = e in absurd (cc)
  take_has (suc n) zero (y ∷ ys) x lt e =
      let is : Some y ≡ Some x = e in
      let same : y ≡ x = cc in
      subst (λ (z : A). Contains (y ∷ take n ys) z) same (contains_head y (take n ys))
  take_has (suc n) (suc k) (y ∷ ys) x lt e = contains_tail y (take n ys) x (take_has n k ys x (omega arith) e)

  pub drop_get : (f k j : ℕ) (xs : List A) → j ≡ f + k → slice_get (drop f xs) k ≡ slice_get xs j
  drop_get zero k j [] e = refl
  drop_get zero k j (y ∷ ys) e = let same : k ≡ j = omega arith in ap (λ (i : ℕ). slice_get (y ∷ ys) i) same
  drop_get (suc f) k j [] e = refl
  drop_get (suc f) k zero (y ∷ ys) e = absurd (omega arith)
  drop_get (suc f) k (suc j) (y ∷ ys) e = drop_get f k j ys (omega arith)

  -- from one place to another
  pub part_from : (f n : ℕ) (xs : List A) (x : A) → Contains (take n (drop f xs)) x → (k : ℕ) × (f ≤ k) × (k < f + n) × (slice_get xs k ≡ Some x)
  part_from f n xs x c =
      let h = take_from n (drop f xs) x c in
      let lt = h.1 in
      (f + h.0, omega arith, omega arith, sym (drop_get f h.0 (f + h.0) xs refl) ∙ h.2)

  pub part_has : (f n k : ℕ) (xs : List A) (x : A) → f ≤ k → k < f + n → slice_get xs k ≡ Some x → Contains (take n (drop f xs)) x
  part_has f n k xs x le lt e =
      take_has n (k - f) (drop f xs) x (omega arith) (drop_get f (k - f) k xs (omega arith) ∙ e)

  pub got : (xs : List A) (k : ℕ) → k < length xs → (x : A) × (slice_get xs k ≡ Some x)
  got [] k lt = absurd (omega arith)
  got (x ∷ xs) zero lt = (x, refl)
  got (x ∷ xs) (suc k) lt = got xs k (omega arith)

  pub got_within : (xs : List A) (k : ℕ) (x : A) → slice_get xs k ≡ Some x → k < length xs
  got_within [] k x e = let none : None ≡ Some x = e in absurd (cc)
  got_within (y ∷ xs) zero x e = omega arith
  got_within (y ∷ xs) (suc k) x e = let h = got_within xs k x e in omega arith

  pub at_place : (xs : List A) (j : ℕ) (x : A) → slice_get xs j ≡ Some x → (d : A) → get_or xs j d ≡ x
  at_place [] j x e d = let none : None ≡ Some x = e in absurd (cc)
  at_place (y ∷ xs) zero x e d = let is : Some y ≡ Some x = e in cc
  at_place (y ∷ xs) (suc j) x e d = at_place xs j x e d

-- ---- the least

pub least_first : (xs : List ℕ) (n : ℕ) → IsLeastOf xs None → IsLeastOf (xs ++ n ∷ []) (Some n)
least_first xs n none = (
  Contains-append_right xs (n ∷ []) n (contains_head n []),
  λ m c. elim (Contains-append_cases xs (n ∷ []) m c) [
    | inl before ↦ absurd (none m before)
    | inr last ↦ elim (contains_cases n [] m last) [ inl same ↦ subst (λ k. n ≤ k) same (omega arith) | inr past ↦ absurd (contains_none m past) ]
  ],
)

pub least_lower : (xs : List ℕ) (l n : ℕ) → IsLeastOf xs (Some l) → n < l → IsLeastOf (xs ++ n ∷ []) (Some n)
least_lower xs l n h lt = (
  Contains-append_right xs (n ∷ []) n (contains_head n []),
  λ m c. elim (Contains-append_cases xs (n ∷ []) m c) [
    | inl before ↦ let le = h.1 m before in omega arith
    | inr last ↦ elim (contains_cases n [] m last) [ inl same ↦ subst (λ k. n ≤ k) same (omega arith) | inr past ↦ absurd (contains_none m past) ]
  ],
)

pub least_kept : (xs : List ℕ) (l n : ℕ) → IsLeastOf xs (Some l) → l ≤ n → IsLeastOf (xs ++ n ∷ []) (Some l)
least_kept xs l n h le = (
  Contains-append_left xs (n ∷ []) l h.0,
  λ m c. elim (Contains-append_cases xs (n ∷ []) m c) [
    | inl before ↦ h.1 m before
    | inr last ↦ elim (contains_cases n [] m last) [ inl same ↦ subst (λ k. l ≤ k) same le | inr past ↦ absurd (contains_none m past) ]
  ],
)

-- ---- one more of a list

pub flat_next : {A B : Type 0} (f : A → List B) (xs : List A) (k : ℕ) (x d : A) → k < length xs → x ≡ get_or xs k d → flat_map f (take (k + 1) xs) ≡ flat_map f (take k xs) ++ f x
flat_next f xs k x d lt e = ap (λ l. flat_map f l) (take_next xs k x d lt e) ∙ sym (flat_map_more f [] (take k xs) x)

pub least_next : (f : ℕ → List ℕ) (xs : List ℕ) (k : ℕ) (o n : Option ℕ) → k < length xs → IsLeastOf (flat_map f (take k xs)) o
    → ((ys : List ℕ) → IsLeastOf ys o → IsLeastOf (ys ++ f (get_or xs k 0)) n) → IsLeastOf (flat_map f (take (k + 1) xs)) n
least_next f xs k o n lt h more =
    subst (λ l. IsLeastOf l n) (sym (flat_next f xs k (get_or xs k 0) 0 lt refl)) (more (flat_map f (take k xs)) h)

pub least_all : (f : ℕ → List ℕ) (xs : List ℕ) (k : ℕ) (o : Option ℕ) → length xs ≤ k → IsLeastOf (flat_map f (take k xs)) o → IsLeastOf (flat_map f xs) o
least_all f xs k o le h = subst (λ l. IsLeastOf (flat_map f l) o) (take_all k xs le) h

pub least_more : (xs ys : List ℕ) (k : ℕ) (o n : Option ℕ) → k < length ys → IsLeastOf (xs ++ take k ys) o
    → ((zs : List ℕ) → IsLeastOf zs o → IsLeastOf (zs ++ get_or ys k 0 ∷ []) n) → IsLeastOf (xs ++ take (k + 1) ys) n
least_more xs ys k o n lt h more =
    subst (λ l. IsLeastOf l n) (append_assoc xs (take k ys) (get_or ys k 0 ∷ []) ∙ ap (λ l. xs ++ l) (sym (take_next ys k (get_or ys k 0) 0 lt refl))) (more (xs ++ take k ys) h)

pub least_whole : (xs ys : List ℕ) (k : ℕ) (o : Option ℕ) → length ys ≤ k → IsLeastOf (xs ++ take k ys) o → IsLeastOf (xs ++ ys) o
least_whole xs ys k o le h = subst (λ l. IsLeastOf (xs ++ l) o) (take_all k ys le) h

-- an element of a list that is this one
pub among : {A : Type 0} (xs ys : List A) (k : ℕ) (x : A) → xs ≡ ys → k < length xs → x ≡ get_or xs k x → Contains ys x
among xs ys k x same lt is = subst (λ l. Contains l x) same (k, lt, sym is)
