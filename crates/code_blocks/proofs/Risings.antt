-- The numbers of a list as a rising list.
use Rattle.std.proofs.Common.{◌≡◌, ◌⊎◌, ◌↔◌, inl, inr, ℕ, zero, suc, ◌<◌, ◌≤◌, List, [], ◌∷◌, length, get_or, arith, refl, sym, subst}
use Rattle.std.specs.Prelude.{Contains, AllPairs}
use Rattle.std.proofs.lemmas.Bool.{lt-ltb, le-ltb, cases_lt}
use Rattle.common_laws.proofs.Members.{contains_head, contains_tail, contains_cases, contains_none}
use Rattle.common_laws.proofs.Orders.{one_list}
use Rattle.graph_core.specs.Graphs.{IsRising}
use Rattle.code_blocks.specs.Successors.{with_number, rising}

-- ---- a number put in its place

put_first : (x y : ℕ) (ys : List ℕ) → x < y → with_number x (y ∷ ys) ≡ x ∷ y ∷ ys
put_first x y ys lt = rw (lt-ltb x y lt) refl

put_later : (x y : ℕ) (ys : List ℕ) → y < x → with_number x (y ∷ ys) ≡ y ∷ with_number x ys
put_later x y ys lt = rw (le-ltb x y (omega arith), lt-ltb y x lt) refl

put_same : (x y : ℕ) (ys : List ℕ) → x ≡ y → with_number x (y ∷ ys) ≡ y ∷ ys
put_same x y ys e = rw (le-ltb x y (omega arith), le-ltb y x (omega arith)) refl

data Order (x y : ℕ) : Type 0 where
  is_below : x < y → Order x y
  is_above : y < x → Order x y
  is_same : x ≡ y → Order x y

order : (x y : ℕ) → Order x y
order x y =
    elim (cases_lt x y) [
      | inl lt ↦ is_below lt
      | inr le ↦ elim (cases_lt y x) [ inl gt ↦ is_above gt | inr ge ↦ is_same (omega arith) ]
    ]

-- ---- its members

put_has : (x : ℕ) (ys : List ℕ) (u : ℕ) → ((x ≡ u) ⊎ Contains ys u) → Contains (with_number x ys) u
put_has x [] u h = elim h [ inl e ↦ subst (λ v. Contains (x ∷ []) v) e (contains_head x []) | inr none ↦ absurd (contains_none u none) ]
put_has x (y ∷ ys) u h =
    elim (order x y) [
      | is_below lt ↦ subst (λ l. Contains l u) (sym (put_first x y ys lt)) (
          elim h [ inl e ↦ subst (λ v. Contains (x ∷ y ∷ ys) v) e (contains_head x (y ∷ ys)) | inr there ↦ contains_tail x (y ∷ ys) u there ]
          )
      | is_above gt ↦ subst (λ l. Contains l u) (sym (put_later x y ys gt)) (
          elim h [
            | inl e ↦ contains_tail y (with_number x ys) u (put_has x ys u (inl e))
            | inr there ↦ elim (contains_cases y ys u there) [
              | inl e ↦ subst (λ v. Contains (y ∷ with_number x ys) v) e (contains_head y (with_number x ys))
              | inr later ↦ contains_tail y (with_number x ys) u (put_has x ys u (inr later))
            ]
          ]
          )
      | is_same e ↦ subst (λ l. Contains l u) (sym (put_same x y ys e)) (
          elim h [ inl f ↦ subst (λ v. Contains (y ∷ ys) v) (let g : y ≡ u = omega arith in g) (contains_head y ys) | inr there ↦ there ]
          )
    ]

put_from : (x : ℕ) (ys : List ℕ) (u : ℕ) → Contains (with_number x ys) u → (x ≡ u) ⊎ Contains ys u
put_from x [] u h = elim (contains_cases x [] u h) [ inl e ↦ inl e | inr none ↦ absurd (contains_none u none) ]
put_from x (y ∷ ys) u h =
    elim (order x y) [
      | is_below lt ↦ contains_cases x (y ∷ ys) u (subst (λ l. Contains l u) (put_first x y ys lt) h)
      | is_above gt ↦ elim (contains_cases y (with_number x ys) u (subst (λ l. Contains l u) (put_later x y ys gt) h)) [
        | inl e ↦ inr (subst (λ v. Contains (y ∷ ys) v) e (contains_head y ys))
        | inr later ↦ elim (put_from x ys u later) [ inl e ↦ inl e | inr there ↦ inr (contains_tail y ys u there) ]
      ]
      | is_same e ↦ inr (subst (λ l. Contains l u) (put_same x y ys e) h)
    ]

pub rising_has : (xs : List ℕ) (u : ℕ) → Contains xs u → Contains (rising xs) u
unfolding rising
rising_has [] u h = h
rising_has (x ∷ xs) u h =
    elim (contains_cases x xs u h) [ inl e ↦ put_has x (rising xs) u (inl e) | inr later ↦ put_has x (rising xs) u (inr (rising_has xs u later)) ]

pub rising_from : (xs : List ℕ) (u : ℕ) → Contains (rising xs) u → Contains xs u
unfolding rising
rising_from [] u h = h
rising_from (x ∷ xs) u h =
    elim (put_from x (rising xs) u h) [ inl e ↦ subst (λ v. Contains (x ∷ xs) v) e (contains_head x xs) | inr later ↦ contains_tail x xs u (rising_from xs u later) ]

-- ---- its order

-- each number is at least so much, and rises
abbrev Rise : ℕ → List ℕ → Type 0
Rise b [] = Unit {0}
Rise b (y ∷ ys) = (b ≤ y) × Rise (suc y) ys

rise_more : (a b : ℕ) (ys : List ℕ) → a ≤ b → Rise b ys → Rise a ys
rise_more a b [] le h = tt
rise_more a b (y ∷ ys) le h = let first = h.0 in (omega arith, h.1)

put_rises : (b x : ℕ) (ys : List ℕ) → b ≤ x → Rise b ys → Rise b (with_number x ys)
put_rises b x [] le h = (le, tt)
put_rises b x (y ∷ ys) le h =
    let first = h.0 in
    elim (order x y) [
      | is_below lt ↦ subst (λ l. Rise b l) (sym (put_first x y ys lt)) (le, (omega arith, h.1))
      | is_above gt ↦ subst (λ l. Rise b l) (sym (put_later x y ys gt)) (h.0, put_rises (suc y) x ys (omega arith) h.1)
      | is_same e ↦ subst (λ l. Rise b l) (sym (put_same x y ys e)) h
    ]

rising_rises : (xs : List ℕ) → Rise 0 (rising xs)
unfolding rising
rising_rises [] = tt
rising_rises (x ∷ xs) = put_rises 0 x (rising xs) (omega arith) (rising_rises xs)

rise_above : (b : ℕ) (ys : List ℕ) (u : ℕ) → Rise b ys → Contains ys u → b ≤ u
rise_above b [] u h none = absurd (contains_none u none)
rise_above b (y ∷ ys) u h c =
    let first = h.0 in
    elim (contains_cases y ys u c) [ inl e ↦ omega arith | inr later ↦ let more = rise_above (suc y) ys u h.1 later in omega arith ]

at_member : (ys : List ℕ) (k : ℕ) (d : ℕ) → k < length ys → Contains ys (get_or ys k d)
at_member [] k d lt = absurd (omega arith)
at_member (y ∷ ys) zero d lt = contains_head y ys
at_member (y ∷ ys) (suc k) d lt = contains_tail y ys (get_or ys k d) (at_member ys k d (omega arith))

rise_pairs : (b : ℕ) (ys : List ℕ) (i j : ℕ) (d : ℕ) → Rise b ys → i < j → j < length ys → get_or ys i d < get_or ys j d
rise_pairs b [] i j d h lt within = absurd (omega arith)
rise_pairs b (y ∷ ys) zero zero d h lt within = absurd (omega arith)
rise_pairs b (y ∷ ys) zero (suc j) d h lt within = let more = rise_above (suc y) ys (get_or ys j d) h.1 (at_member ys j d (omega arith)) in omega arith
rise_pairs b (y ∷ ys) (suc i) zero d h lt within = absurd (omega arith)
rise_pairs b (y ∷ ys) (suc i) (suc j) d h lt within = rise_pairs (suc y) ys i j d h.1 (omega arith) (omega arith)

pub rising_pairs : (xs : List ℕ) → AllPairs (λ x y. x < y) (rising xs)
rising_pairs xs = λ i j d lt within. rise_pairs 0 (rising xs) i j d (rising_rises xs) lt within

pub rising_order : (xs : List ℕ) → IsRising (rising xs)
rising_order xs = λ i j lt within. rise_pairs 0 (rising xs) i j 0 (rising_rises xs) lt within

-- a strictly rising list with the same members is the same
pub rising_is : (xs ys : List ℕ) → AllPairs (λ x y. x < y) ys → ((u : ℕ) → Contains ys u ↔ Contains xs u) → ys ≡ rising xs
rising_is xs ys order same =
    one_list (λ (x y : ℕ). x < y) (λ a b h k. omega arith) ys (rising xs) order (rising_pairs xs) (λ u. (λ h. rising_has xs u ((same u).0 h), λ h. (same u).1 (rising_from xs u h)))
