-- a row of successors stays in rising order as a node is inserted
use Rattle.std.proofs.Common.{refl, Bool, IsTrue, Result, Ok, ◌≡◌, ◌≢◌, ◌⊎◌, ◌↔◌, ℕ, ◌+◌, ◌-◌, ◌<◌, ◌≤◌, List, [], ◌∷◌, ◌++◌, length, get_or, take, drop, set, replicate, All, Contains, Err, sym, ◌∙◌, inl, inr, ⊎_elim, subst, arith, length-append, length-take, length-drop, get_or-set_same, get_or-set_other}
use Rattle.std.specs.List.{insert}
use Rattle.std.specs.List.Sorted.{IsBinarySearchResult}
use Rattle.std.specs.Ordering.{nat_cmp}
use Rattle.std.proofs.lemmas.List.Sorted.{searched}
use Rattle.std.proofs.lemmas.Bool.{cases_order, cases_eq, cases_lt, false≢true}
use Rattle.std.specs.Result.{is_ok}
use Rattle.std.proofs.lemmas.List.{take-append-drop, length-set, length-replicate, set-get_or, get_or_default, get_or-replicate, get_or_past}
use Rattle.std.proofs.lemmas.List.Edits.{get_or-insert_below, get_or-insert_at, get_or-insert_above}
use Rattle.std.proofs.lemmas.List.Elements.{Contains-append_left, Contains-append_right, Contains-append_cases, Contains-get_or}
use Rattle.graph_core.specs.Graphs.{IsRising, HasEdge, EndsAtNodes}
use Rattle.graph_core.proofs.Lists.{Contains-cons_cases, Contains-tail, Contains-head, Contains-nil}

module _ (xs : List ℕ) (i y : ℕ) (fits : i ≤ length xs) where
  length_insert : length (insert xs i y) ≡ length xs + 1
  length_insert = omega (arith, length-append (take i xs) (y ∷ drop i xs), length-take i xs, length-drop i xs)

  at_above : (k : ℕ) → i < k → get_or (insert xs i y) k 0 ≡ get_or xs (k - 1) 0
  at_above k l =
      let e : k - 1 + 1 ≡ k = omega arith in
      subst (λ (j : ℕ). get_or (insert xs i y) j 0 ≡ get_or xs (k - 1) 0) e (get_or-insert_above xs i y 0 (k - 1) (omega arith) fits)

  module _ (rising : IsRising xs) (low : (k : ℕ) → k < i → get_or xs k 0 < y) (high : (k : ℕ) → i ≤ k → k < length xs → y < get_or xs k 0) where
    rising_at : (p q : ℕ) → p < q → q < length (insert xs i y) → (p ≡ i) ⊎ ((p < i) ⊎ (i < p)) → (q ≡ i) ⊎ ((q < i) ⊎ (i < q)) → get_or (insert xs i y) p 0 < get_or (insert xs i y) q 0
    rising_at p q l m (inl e) (inl f) = absurd (omega arith)
    rising_at p q l m (inl e) (inr (inl f)) = absurd (omega arith)
    rising_at p q l m (inl e) (inr (inr f)) =
        let n = length_insert in
        let a : get_or (insert xs i y) p 0 ≡ y = subst (λ (j : ℕ). get_or (insert xs i y) j 0 ≡ y) (sym e) (get_or-insert_at xs i y 0 fits) in
        let b = at_above q f in
        let c = high (q - 1) (omega arith) (omega arith) in
        omega arith
    rising_at p q l m (inr (inl e)) (inl f) =
        let b : get_or (insert xs i y) q 0 ≡ y = subst (λ (j : ℕ). get_or (insert xs i y) j 0 ≡ y) (sym f) (get_or-insert_at xs i y 0 fits) in
        let a = get_or-insert_below xs i y 0 p e fits in
        let c = low p e in
        omega arith
    rising_at p q l m (inr (inl e)) (inr (inl f)) =
        let a = get_or-insert_below xs i y 0 p e fits in
        let b = get_or-insert_below xs i y 0 q f fits in
        let c = rising p q l (omega arith) in
        omega arith
    rising_at p q l m (inr (inl e)) (inr (inr f)) =
        let n = length_insert in
        let a = get_or-insert_below xs i y 0 p e fits in
        let b = at_above q f in
        let c = low p e in
        let d = high (q - 1) (omega arith) (omega arith) in
        omega arith
    rising_at p q l m (inr (inr e)) (inl f) = absurd (omega arith)
    rising_at p q l m (inr (inr e)) (inr (inl f)) = absurd (omega arith)
    rising_at p q l m (inr (inr e)) (inr (inr f)) =
        let n = length_insert in
        let a = at_above p e in
        let b = at_above q f in
        let c = rising (p - 1) (q - 1) (omega arith) (omega arith) in
        omega arith

    pub IsRising-insert : IsRising (insert xs i y)
    IsRising-insert p q l m = rising_at p q l m (cases_order p i) (cases_order q i)

  contains_from : (x : ℕ) → Contains (insert xs i y) x → Contains xs x ⊎ (x ≡ y)
  contains_from x h =
      let whole : take i xs ++ drop i xs ≡ xs = take-append-drop i xs in
      ⊎_elim (λ (p : Contains (take i xs) x). inl (subst (λ (ys : List ℕ). Contains ys x) whole (Contains-append_left (take i xs) (drop i xs) x p))) (λ (q : Contains (y ∷ drop i xs) x). ⊎_elim (λ (e : y ≡ x). inr (sym e)) (λ (r : Contains (drop i xs) x). inl (subst (λ (ys : List ℕ). Contains ys x) whole (Contains-append_right (take i xs) (drop i xs) x r))) (Contains-cons_cases y (drop i xs) x q)) (Contains-append_cases (take i xs) (y ∷ drop i xs) x h)

  contains_old : (x : ℕ) → Contains xs x → Contains (insert xs i y) x
  contains_old x h =
      let whole : take i xs ++ drop i xs ≡ xs = take-append-drop i xs in
      ⊎_elim (λ (p : Contains (take i xs) x). Contains-append_left (take i xs) (y ∷ drop i xs) x p) (λ (q : Contains (drop i xs) x). Contains-append_right (take i xs) (y ∷ drop i xs) x (Contains-tail y (drop i xs) x q)) (Contains-append_cases (take i xs) (drop i xs) x (subst (λ (ys : List ℕ). Contains ys x) (sym whole) h))

  contains_new : (x : ℕ) → x ≡ y → Contains (insert xs i y) x
  contains_new x e =
      subst (Contains (insert xs i y)) (sym e) (Contains-append_right (take i xs) (y ∷ drop i xs) y (Contains-head y (drop i xs)))

  -- what a row has once a node was inserted
  pub Contains-insert : (x : ℕ) → Contains (insert xs i y) x ↔ (Contains xs x ⊎ (x ≡ y))
  Contains-insert x = (contains_from x, λ h. ⊎_elim (contains_old x) (contains_new x) h)

-- a rising row doesn't fall
pub IsRising-le : (xs : List ℕ) → IsRising xs → (i j : ℕ) → i ≤ j → j < length xs → get_or xs i 0 ≤ get_or xs j 0
IsRising-le xs rising i j l m =
    ⊎_elim (λ (e : i ≡ j). subst (λ (k : ℕ). get_or xs i 0 ≤ get_or xs k 0) e (omega arith)) (λ (o : i ≢ j). let r = rising i j (omega arith) m in omega arith) (cases_eq i j)

module _ (g : List (List ℕ)) (a : ℕ) (old row : List ℕ) (l : a < length g) (read : old ≡ get_or g a old) where
  was_row : old ≡ get_or g a []
  was_row = read ∙ get_or_default g a old [] l

  module _ (b : ℕ) (adds : (x : ℕ) → Contains row x ↔ (Contains old x ⊎ (x ≡ b))) where
    edge_from : (x y : ℕ) → (x ≡ a) ⊎ (x ≢ a) → HasEdge (set g a row) x y → HasEdge g x y ⊎ ((x ≡ a) × (y ≡ b))
    edge_from x y (inl e) h =
        let here : Contains row y = subst (λ (ys : List ℕ). Contains ys y) (get_or-set_same g a row [] l) (subst (λ (k : ℕ). HasEdge (set g a row) k y) e h) in
        ⊎_elim (λ (o : Contains old y). inl (subst (λ (k : ℕ). HasEdge g k y) (sym e) (subst (λ (ys : List ℕ). Contains ys y) was_row o))) (λ (n : y ≡ b). inr (e, n)) ((adds y).0 here)
    edge_from x y (inr o) h = inl (subst (λ (ys : List ℕ). Contains ys y) (get_or-set_other g a x row [] o) h)

    edge_old : (x y : ℕ) → (x ≡ a) ⊎ (x ≢ a) → HasEdge g x y → HasEdge (set g a row) x y
    edge_old x y (inl e) h =
        let there : Contains old y = subst (λ (ys : List ℕ). Contains ys y) (sym was_row) (subst (λ (k : ℕ). HasEdge g k y) e h) in
        subst (λ (k : ℕ). HasEdge (set g a row) k y) (sym e) (subst (λ (ys : List ℕ). Contains ys y) (sym (get_or-set_same g a row [] l)) ((adds y).1 (inl there)))
    edge_old x y (inr o) h = subst (λ (ys : List ℕ). Contains ys y) (sym (get_or-set_other g a x row [] o)) h

    edge_new : (x y : ℕ) → x ≡ a → y ≡ b → HasEdge (set g a row) x y
    edge_new x y e n =
        subst (λ (k : ℕ). HasEdge (set g a row) k y) (sym e) (subst (λ (ys : List ℕ). Contains ys y) (sym (get_or-set_same g a row [] l)) ((adds y).1 (inr n)))

    -- the edges once a node was added to a row
    pub HasEdge-set : (x y : ℕ) → HasEdge (set g a row) x y ↔ (HasEdge g x y ⊎ ((x ≡ a) × (y ≡ b)))
    HasEdge-set x y =
        (edge_from x y (cases_eq x a), λ h. ⊎_elim (edge_old x y (cases_eq x a)) (λ (n : (x ≡ a) × (y ≡ b)). edge_new x y n.0 n.1) h)

    pub EndsAtNodes-set : b < length g → EndsAtNodes g → EndsAtNodes (set g a row)
    EndsAtNodes-set m ends x y h =
        let same = length-set g a row in
        ⊎_elim (λ (o : HasEdge g x y). let k : y < length g = ends x y o in let r : y < length (set g a row) = omega arith in r) (λ (n : (x ≡ a) × (y ≡ b)). let e : y ≡ b = n.1 in let r : y < length (set g a row) = omega arith in r) ((HasEdge-set x y).0 h)

  -- a row that is written back as it was
  pub set-row_same : row ≡ old → set g a row ≡ g
  set-row_same e =
      subst (λ (ys : List ℕ). set g a ys ≡ g) (sym (e ∙ was_row)) (set-get_or g a [])

-- what the rows hold ends at nodes
pub All-successors : (g : List (List ℕ)) (a : ℕ) → EndsAtNodes g → All (λ b. b < length g) (get_or g a [])
All-successors g a ends k d l = ends a (get_or (get_or g a []) k d) (Contains-get_or (get_or g a []) k d l)

no_edge : (n a b : ℕ) → (a < n) ⊎ (n ≤ a) → HasEdge (replicate n []) a b → ⊥
no_edge n a b (inl l) h = Contains-nil b (subst (λ (ys : List ℕ). Contains ys b) (get_or-replicate n a [] [] l) h)
no_edge n a b (inr m) h =
    let p : length (replicate {A = List ℕ} n []) ≤ a = omega (arith, length-replicate {A = List ℕ} n []) in
    Contains-nil b (subst (λ (ys : List ℕ). Contains ys b) (get_or_past (replicate n []) a [] p) h)

pub EndsAtNodes-none : (n : ℕ) (g : List (List ℕ)) → g ≡ replicate n [] → EndsAtNodes g
EndsAtNodes-none n g e a b h =
    absurd (no_edge n a b (cases_lt a n) (subst (λ (ys : List (List ℕ)). HasEdge ys a b) e h))

-- where a search that found nothing says to insert
pub insertion_place : (xs ys : List ℕ) (x i : ℕ) → ys ≡ xs → IsBinarySearchResult (λ y. nat_cmp y x) ys (Err i) → IsRising xs → (i ≤ length xs) × ((k : ℕ) → k < i → get_or xs k 0 < x) × ((k : ℕ) → i ≤ k → k < length xs → x < get_or xs k 0)
insertion_place xs ys x i e h rising =
    searched xs x (Err i) (subst (λ (zs : List ℕ). IsBinarySearchResult (λ y. nat_cmp y x) zs (Err i)) e h) (IsRising-le xs rising)

pub no_edges : (n : ℕ) (g : List (List ℕ)) → g ≡ replicate n [] → (a b : ℕ) → HasEdge g a b → ⊥
no_edges n g e a b h = no_edge n a b (cases_lt a n) (subst (λ (ys : List (List ℕ)). HasEdge ys a b) e h)

-- whether a search found something
searched_in : (xs : List ℕ) (x : ℕ) (r : Result ℕ ℕ) → IsBinarySearchResult (λ y. nat_cmp y x) xs r → IsRising xs → IsTrue (is_ok r) ↔ Contains xs x
searched_in xs x (Ok i) h rising =
    let at = searched xs x (Ok i) h (IsRising-le xs rising) in
    (λ t. (i, at.0, get_or_default xs i x 0 at.0 ∙ at.1), λ c. refl)
searched_in xs x (Err i) h rising =
    let at = searched xs x (Err i) h (IsRising-le xs rising) in
    (λ t. absurd (false≢true t), λ c. absurd (outside c.0 c.1 (get_or_default xs c.0 0 x c.1 ∙ c.2) at.1 at.2 (cases_lt c.0 i)))
  where
    outside : (k : ℕ) → k < length xs → get_or xs k 0 ≡ x → ((j : ℕ) → j < i → get_or xs j 0 < x) → ((j : ℕ) → i ≤ j → j < length xs → x < get_or xs j 0) → (k < i) ⊎ (i ≤ k) → ⊥
    outside k l e low high (inl m) = let a = low k m in omega arith
    outside k l e low high (inr m) = let a = high k m l in omega arith

pub found_in : (xs ys zs : List ℕ) (x : ℕ) (r : Result ℕ ℕ) (b : Bool) → ys ≡ xs → xs ≡ zs → IsBinarySearchResult (λ y. nat_cmp y x) ys r → IsRising xs → b ≡ is_ok r → IsTrue b ↔ Contains zs x
found_in xs ys zs x r b e z h rising s =
    let at = searched_in xs x r (subst (λ (ws : List ℕ). IsBinarySearchResult (λ y. nat_cmp y x) ws r) e h) rising in
    subst (λ (ws : List ℕ). IsTrue b ↔ Contains ws x) z (subst (λ (t : Bool). IsTrue t ↔ Contains xs x) (sym s) at)
