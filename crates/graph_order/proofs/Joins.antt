-- the components of a graph, what joins them, and the lowest chosen node of each
use Rattle.std.proofs.Common.{◌≡◌, ◌≢◌, ◌⊎◌, ◌↔◌, ℕ, ◌+◌, ◌<◌, ◌≤◌, Bool, Option, Some, None, List, [], ◌∷◌, ◌++◌, length, get_or, set, All, Contains, sym, ◌∙◌, ap, inl, inr, ⊎_elim, subst, arith, get_or-set_same, get_or-set_other}
use Rattle.std.specs.List.Sorted.{IsPermutation}
use Rattle.std.proofs.lemmas.Bool.{cases_eq, cases_lt}
use Rattle.std.proofs.lemmas.List.{get_or_default, get_or_past}
use Rattle.std.proofs.lemmas.List.Elements.{All-from_get_or, Contains-get_or, Contains-push, Contains-push_cases, Contains-append_left}
use Rattle.std.proofs.lemmas.List.Sorted.{Contains-permutation, IsPermutation-sym}
use Rattle.graph_core.specs.Graphs.{HasEdge, EndsAtNodes, successors_of}
use Rattle.graph_core.specs.Marked.{IsMarked}
use Rattle.graph_core.specs.Numbers.{AreComponents, AreCounted}
use Rattle.graph_order.specs.inside.Parts.{AreJoinsTo, IsCondensed, AreFirstFrom, first_of}

-- x and y are joined by an edge from a node below n
abbrev pub JoinsTo : List (List ℕ) → List ℕ → ℕ → ℕ → ℕ → Type 0
JoinsTo g numbers n x y =
    (a : ℕ) × (b : ℕ) × (a < n) × HasEdge g a b × (get_or numbers a 0 ≡ x) × (get_or numbers b 0 ≡ y) × (x ≢ y)

-- x and y are joined by one of the first i edges of a
abbrev pub JoinsAt : List ℕ → List ℕ → ℕ → ℕ → ℕ → ℕ → Type 0
JoinsAt numbers row a i x y =
    (k : ℕ) × (k < i) × (k < length row) × (get_or numbers a 0 ≡ x) × (get_or numbers (get_or row k 0) 0 ≡ y) × (x ≢ y)

abbrev pub AreJoinsAt : List (List ℕ) → List ℕ → List ℕ → ℕ → ℕ → List (ℕ × ℕ) → Type 0
AreJoinsAt g numbers row a i edges =
    (x y : ℕ) → Contains edges (x, y) ↔ (JoinsTo g numbers a x y ⊎ JoinsAt numbers row a i x y)

abbrev Same : ℕ → ℕ → ℕ → ℕ → Type 0
Same u v x y = ◌≡◌ {A = ℕ × ℕ} (u, v) (x, y)

-- an edge leads from a node
pub edge_source : (g : List (List ℕ)) (a b : ℕ) → HasEdge g a b → a < length g
edge_source g a b e =
    ⊎_elim (λ (l : a < length g). l) (λ (m : length g ≤ a). absurd (let c = subst (λ (xs : List ℕ). Contains xs b) (get_or_past g a [] m) e in let l = c.1 in omega arith)) (cases_lt a (length g))

module _ (g : List (List ℕ)) (numbers row : List ℕ) (a : ℕ) where
  pub AreJoinsAt-none : (edges : List (ℕ × ℕ)) → AreJoinsTo g numbers a edges → AreJoinsAt g numbers row a 0 edges
  AreJoinsAt-none edges h x y =
      ((λ c. inl ((h x y).0 c)), λ j. ⊎_elim (λ (p : JoinsTo g numbers a x y). (h x y).1 p) (λ (p : JoinsAt numbers row a 0 x y). let l = p.1 in absurd (omega arith)) j)

  module _ (i : ℕ) (l : i < length row) (edges : List (ℕ × ℕ)) (h : AreJoinsAt g numbers row a i edges) where
    wider : (x y : ℕ) → JoinsTo g numbers a x y ⊎ JoinsAt numbers row a i x y → JoinsTo g numbers a x y ⊎ JoinsAt numbers row a (i + 1) x y
    wider x y (inl p) = inl p
    wider x y (inr p) = let m = p.1 in inr (p.0, omega arith, p.2, p.3, p.4, p.5)

    -- an edge within a component joins nothing
    pub AreJoinsAt-skip : get_or numbers a 0 ≡ get_or numbers (get_or row i 0) 0 → AreJoinsAt g numbers row a (i + 1) edges
    AreJoinsAt-skip same x y = (λ c. wider x y ((h x y).0 c), λ j. (h x y).1 (⊎_elim inl narrow j))
      where
        narrow : JoinsAt numbers row a (i + 1) x y → JoinsTo g numbers a x y ⊎ JoinsAt numbers row a i x y
        narrow p =
            let m = p.1 in
            ⊎_elim (λ (e : p.0 ≡ i). absurd (p.5 (sym p.3 ∙ (same ∙ (sym (ap (λ (k : ℕ). get_or numbers (get_or row k 0) 0) e) ∙ p.4))))) (λ (o : p.0 ≢ i). inr (p.0, omega arith, p.2, p.3, p.4, p.5)) (cases_eq p.0 i)

    -- and another one joins two
    pub AreJoinsAt-push : (u v : ℕ) → u ≡ get_or numbers a 0 → v ≡ get_or numbers (get_or row i 0) 0 → u ≢ v → AreJoinsAt g numbers row a (i + 1) (edges ++ (u, v) ∷ [])
    AreJoinsAt-push u v p q o x y = (from, to)
      where
        here : Same u v x y → JoinsAt numbers row a (i + 1) x y
        here e =
            let a0 : u ≡ x = ap (λ (w : ℕ × ℕ). w.0) e in
            let b0 : v ≡ y = ap (λ (w : ℕ × ℕ). w.1) e in
            (i, omega arith, l, sym p ∙ a0, sym q ∙ b0, λ s. o (a0 ∙ (s ∙ sym b0)))

        from : Contains (edges ++ (u, v) ∷ []) (x, y) → JoinsTo g numbers a x y ⊎ JoinsAt numbers row a (i + 1) x y
        from c =
            ⊎_elim (λ (r : Contains edges (x, y)). wider x y ((h x y).0 r)) (λ (e : Same u v x y). inr (here e)) (Contains-push_cases edges (u, v) (x, y) c)

        there : JoinsAt numbers row a (i + 1) x y → Contains (edges ++ (u, v) ∷ []) (x, y)
        there j =
            let m = j.1 in
            ⊎_elim (λ (e : j.0 ≡ i). let a0 : u ≡ x = p ∙ j.3 in let b0 : v ≡ y = q ∙ (sym (ap (λ (k : ℕ). get_or numbers (get_or row k 0) 0) e) ∙ j.4) in subst (λ (w : ℕ × ℕ). Contains (edges ++ (u, v) ∷ []) w) (pair a0 b0) (Contains-push edges (u, v))) (λ (n : j.0 ≢ i). Contains-append_left edges ((u, v) ∷ []) (x, y) ((h x y).1 (inr (j.0, omega arith, j.2, j.3, j.4, j.5)))) (cases_eq j.0 i)
          where
            pair : u ≡ x → v ≡ y → Same u v x y
            pair e f = cc

        to : JoinsTo g numbers a x y ⊎ JoinsAt numbers row a (i + 1) x y → Contains (edges ++ (u, v) ∷ []) (x, y)
        to (inl j) = Contains-append_left edges ((u, v) ∷ []) (x, y) ((h x y).1 (inl j))
        to (inr j) = there j

  -- all edges of a were taken
  pub AreJoinsTo-more : row ≡ successors_of g a → (i : ℕ) → length row ≤ i → (edges : List (ℕ × ℕ)) → AreJoinsAt g numbers row a i edges → AreJoinsTo g numbers (a + 1) edges
  AreJoinsTo-more is i all edges h x y = (λ c. from ((h x y).0 c), λ j. (h x y).1 (to j (cases_eq j.0 a)))
    where
      from : JoinsTo g numbers a x y ⊎ JoinsAt numbers row a i x y → JoinsTo g numbers (a + 1) x y
      from (inl j) = let m = j.2 in (j.0, j.1, omega arith, j.3, j.4, j.5, j.6)
      from (inr j) =
          (a, get_or row j.0 0, omega arith, subst (λ (xs : List ℕ). Contains xs (get_or row j.0 0)) is (Contains-get_or row j.0 0 j.2), j.3, j.4, j.5)

      to : (j : JoinsTo g numbers (a + 1) x y) → (j.0 ≡ a) ⊎ (j.0 ≢ a) → JoinsTo g numbers a x y ⊎ JoinsAt numbers row a i x y
      to j (inr o) = let m = j.2 in inl (j.0, j.1, omega arith, j.3, j.4, j.5, j.6)
      to j (inl e) =
          let c : Contains row j.1 = subst (λ (xs : List ℕ). Contains xs j.1) (sym is) (subst (λ (z : ℕ). HasEdge g z j.1) e j.3) in
          let low = c.1 in
          let at : get_or row c.0 0 ≡ j.1 = get_or_default row c.0 0 j.1 c.1 ∙ c.2 in
          inr (c.0, omega arith, c.1, ap (λ (z : ℕ). get_or numbers z 0) (sym e) ∙ j.4, ap (λ (z : ℕ). get_or numbers z 0) at ∙ j.5, j.6)

module _ (g : List (List ℕ)) (ends : EndsAtNodes g) (numbers : List ℕ) (components : AreComponents g numbers) (count : ℕ) (counted : AreCounted numbers count) (edges : List (ℕ × ℕ)) (h : AreJoinsTo g numbers (length g) edges) where
  low : (x y : ℕ) → Contains edges (x, y) → (x < count) × (y < count)
  low x y c =
      let j = (h x y).0 c in
      let n = components.count in
      let a = counted.below j.0 (let l = j.2 in omega arith) in
      let b = counted.below j.1 (let l = ends j.0 j.1 j.3 in omega arith) in
      (subst (λ (z : ℕ). z < count) j.4 a, subst (λ (z : ℕ). z < count) j.5 b)

  module _ (sorted : List (ℕ × ℕ)) (p : IsPermutation edges sorted) where
    pub sorted_low : All (λ (e : ℕ × ℕ). (e.0 < count) × (e.1 < count)) sorted
    sorted_low =
        All-from_get_or (λ (e : ℕ × ℕ). (e.0 < count) × (e.1 < count)) sorted (0, 0) (λ i l. let e = get_or sorted i (0, 0) in low e.0 e.1 (Contains-permutation sorted edges e (IsPermutation-sym edges sorted p) (Contains-get_or sorted i (0, 0) l)))

    pub IsCondensed-of : (c : List (List ℕ)) → length c ≡ count → ((a b : ℕ) → HasEdge c a b ↔ Contains sorted (a, b)) → IsCondensed g numbers c
    IsCondensed-of c size is =
        record {
          counted = subst (AreCounted numbers) (sym size) counted;
          edges = λ x y. (λ e. let j = (h x y).0 (Contains-permutation sorted edges (x, y) (IsPermutation-sym edges sorted p) ((is x y).0 e)) in (j.0, j.1, j.3, j.4, j.5, j.6), λ j. (is x y).1 (Contains-permutation edges sorted (x, y) p ((h x y).1 (j.0, j.1, edge_source g j.0 j.1 j.2, j.2, j.3, j.4, j.5))));
        }

module _ (numbers : List ℕ) (chosen : List Bool) (v : ℕ) (l : v < length numbers) (firsts : List (Option ℕ)) (h : AreFirstFrom numbers chosen (v + 1) firsts) where
  module _ (m : IsMarked chosen v) (fits : get_or numbers v 0 < length firsts) where
    at_same : (x : ℕ) → x ≡ get_or numbers v 0 → first_of (set firsts (get_or numbers v 0) (Some v)) x ≡ Some v
    at_same x e =
        subst (λ (y : ℕ). first_of (set firsts (get_or numbers v 0) (Some v)) y ≡ Some v) (sym e) (get_or-set_same firsts (get_or numbers v 0) (Some v) None fits)

    at_other : (x : ℕ) → x ≢ get_or numbers v 0 → first_of (set firsts (get_or numbers v 0) (Some v)) x ≡ first_of firsts x
    at_other x o = get_or-set_other firsts (get_or numbers v 0) x (Some v) None o

    -- what is known of the first node with a number, whether it is v or not
    known : (P : ℕ → Type 0) (w x : ℕ) → first_of (set firsts (get_or numbers v 0) (Some v)) x ≡ Some w → (x ≡ get_or numbers v 0) ⊎ (x ≢ get_or numbers v 0) → (x ≡ get_or numbers v 0 → P v) → (first_of firsts x ≡ Some w → P w) → P w
    known P w x e (inl s) here there =
        let both : Some v ≡ Some w = sym (at_same x s) ∙ e in
        let same : v ≡ w = cc in
        subst P same (here s)
    known P w x e (inr o) here there = there (sym (at_other x o) ∙ e)

    each_at : (w : ℕ) → v ≤ w → w < length numbers → IsMarked chosen w → (get_or numbers w 0 ≡ get_or numbers v 0) ⊎ (get_or numbers w 0 ≢ get_or numbers v 0) → (u : ℕ) × (first_of (set firsts (get_or numbers v 0) (Some v)) (get_or numbers w 0) ≡ Some u) × (u ≤ w)
    each_at w a b c (inl s) = (v, at_same (get_or numbers w 0) s, a)
    each_at w a b c (inr o) =
        let past : w ≢ v = λ e. o (ap (λ (k : ℕ). get_or numbers k 0) e) in
        let was = h.each w (omega arith) b c in
        (was.0, at_other (get_or numbers w 0) o ∙ was.1, was.2)

    pub AreFirstFrom-set : AreFirstFrom numbers chosen v (set firsts (get_or numbers v 0) (Some v))
    AreFirstFrom-set =
        record {
          within = λ w x e. known (λ (u : ℕ). u < length numbers) w x e (cases_eq x (get_or numbers v 0)) (λ s. l) (h.within w x);
          number = λ w x e. known (λ (u : ℕ). get_or numbers u 0 ≡ x) w x e (cases_eq x (get_or numbers v 0)) sym (h.number w x);
          marked = λ w x e. known (IsMarked chosen) w x e (cases_eq x (get_or numbers v 0)) (λ s. m) (h.marked w x);
          each = λ w a b c. each_at w a b c (cases_eq (get_or numbers w 0) (get_or numbers v 0));
        }

count_low : (numbers : List ℕ) (a b : ℕ) → AreCounted numbers a → AreCounted numbers b → a ≤ b
count_low numbers a b h k =
    ⊎_elim (λ (l : b < a). absurd (let x = h.given b l in let m = k.below x.0 x.1 in let e = x.2 in omega arith)) (λ (l : a ≤ b). l) (cases_lt b a)

-- numbers are given so many times
pub count_one : (numbers : List ℕ) (a b : ℕ) → AreCounted numbers a → AreCounted numbers b → a ≡ b
count_one numbers a b h k =
    let l = count_low numbers a b h k in let m = count_low numbers b a k h in omega arith
