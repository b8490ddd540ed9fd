-- edges that are no back edges make no cycle, so that their nodes can be put in an order
use Rattle.std.proofs.Common.{◌≡◌, ◌≢◌, ◌⊎◌, ◌↔◌, ℕ, ◌+◌, ◌-◌, ◌<◌, ◌≤◌, List, [], ◌∷◌, ◌++◌, length, get_or, Contains, sym, ◌∙◌, ap, inl, inr, ⊎_elim, subst, arith}
use Rattle.std.proofs.lemmas.Bool.{cases_eq, cases_lt}
use Rattle.std.proofs.lemmas.List.{length_push, get_or_default, get_or_push, get_or_append_left}
use Rattle.std.proofs.lemmas.List.Elements.{Contains-get_or, Contains-push, Contains-push_cases, Contains-append_left}
use Rattle.graph_core.specs.Graphs.{HasEdge, EndsAtNodes, successors_of}
use Rattle.graph_core.specs.Paths.{Leads, Reaches, LiesOnFirstPath}
use Rattle.graph_core.specs.Components.{Closes}
use Rattle.graph_core.specs.Numbers.{AreComponents, AreCounted}
use Rattle.graph_core.proofs.Lists.{Contains-nil}
use Rattle.graph_core.proofs.Reach.{Reaches-node}
use Rattle.graph_loops.specs.Nesting.{IsForward}
use Rattle.graph_loops.specs.inside.Ahead.{LeadsAhead, IsAhead, AreAheadTo, AreAheadAt, ArePlaced, IsFallingTo}
use Rattle.graph_loops.proofs.Firsts.{edge_source, leads_on, on_itself}
use Rattle.graph_loops.proofs.FirstPaths.{first_to}
use Rattle.graph_loops.proofs.Circles.{cycle_top, edge_on}

module _ (g : List (List ℕ)) (root a : ℕ) where
  pub AreAheadAt-none : (ahead : List (List ℕ)) → AreAheadTo g root a ahead → AreAheadAt g root a 0 ahead
  AreAheadAt-none ahead w x y =
      (λ e. let h = (w x y).0 e in (h.0, inl h.1), λ h. (w x y).1 (h.0, ⊎_elim (λ (l : x < a). l) (λ (n : (x ≡ a) × ((k : ℕ) × (k < 0) × (k < length (successors_of g a)) × (get_or (successors_of g a) k 0 ≡ y))). let l = n.1.1 in absurd (omega arith)) h.1))

  -- no edge of a leads ahead, which isn't reached
  pub AreAheadTo-skip : (ahead : List (List ℕ)) → (Reaches g root a → ⊥) → AreAheadTo g root a ahead → AreAheadTo g root (a + 1) ahead
  AreAheadTo-skip ahead none w x y =
      (λ e. let h = (w x y).0 e in let l = h.1 in (h.0, omega arith), λ h. ⊎_elim (λ (e : x ≡ a). absurd (none (subst (Reaches g root) e h.0.1))) (λ (n : x ≢ a). let l = h.1 in (w x y).1 (h.0, omega arith)) (cases_eq x a))

  module _ (i : ℕ) (ahead : List (List ℕ)) (w : AreAheadAt g root a i ahead) (b : ℕ) (at : get_or (successors_of g a) i 0 ≡ b) (l : i < length (successors_of g a)) where
    wider : (x y : ℕ) → (x < a) ⊎ ((x ≡ a) × ((k : ℕ) × (k < i) × (k < length (successors_of g a)) × (get_or (successors_of g a) k 0 ≡ y))) → (x < a) ⊎ ((x ≡ a) × ((k : ℕ) × (k < i + 1) × (k < length (successors_of g a)) × (get_or (successors_of g a) k 0 ≡ y)))
    wider x y (inl h) = inl h
    wider x y (inr h) = let m = h.1.1 in inr (h.0, (h.1.0, omega arith, h.1.2, h.1.3))

    -- a back edge
    pub AreAheadAt-skip : LiesOnFirstPath g root b a → AreAheadAt g root a (i + 1) ahead
    AreAheadAt-skip on x y =
        (λ e. let h = (w x y).0 e in (h.0, wider x y h.1), λ h. (w x y).1 (h.0, narrow h.0 h.1))
      where
        narrow : LeadsAhead g root x y → (x < a) ⊎ ((x ≡ a) × ((k : ℕ) × (k < i + 1) × (k < length (successors_of g a)) × (get_or (successors_of g a) k 0 ≡ y))) → (x < a) ⊎ ((x ≡ a) × ((k : ℕ) × (k < i) × (k < length (successors_of g a)) × (get_or (successors_of g a) k 0 ≡ y)))
        narrow leads (inl h) = inl h
        narrow leads (inr h) =
            let m = h.1.1 in
            ⊎_elim (λ (e : h.1.0 ≡ i). let is : b ≡ y = sym at ∙ (ap (λ (k : ℕ). get_or (successors_of g a) k 0) (sym e) ∙ h.1.3) in absurd (leads.2 (subst (λ (z : ℕ). LiesOnFirstPath g root z x) is (subst (LiesOnFirstPath g root b) (sym h.0) on)))) (λ (n : h.1.0 ≢ i). inr (h.0, (h.1.0, omega arith, h.1.2, h.1.3))) (cases_eq h.1.0 i)

    -- and another one
    pub AreAheadAt-add : Reaches g root a → (LiesOnFirstPath g root b a → ⊥) → (more : List (List ℕ)) → ((x y : ℕ) → HasEdge more x y ↔ (HasEdge ahead x y ⊎ ((x ≡ a) × (y ≡ b)))) → AreAheadAt g root a (i + 1) more
    AreAheadAt-add reached none more added x y =
        (λ e. ⊎_elim old new ((added x y).0 e), λ h. (added x y).1 (back h.0 h.1))
      where
        edge : HasEdge g a b
        edge = subst (HasEdge g a) at (Contains-get_or (successors_of g a) i 0 l)

        old : HasEdge ahead x y → LeadsAhead g root x y × ((x < a) ⊎ ((x ≡ a) × ((k : ℕ) × (k < i + 1) × (k < length (successors_of g a)) × (get_or (successors_of g a) k 0 ≡ y))))
        old e = let h = (w x y).0 e in (h.0, wider x y h.1)

        leads : (x ≡ a) × (y ≡ b) → LeadsAhead g root x y
        leads s =
            subst (λ (z : ℕ). LeadsAhead g root z y) (sym s.0) (subst (LeadsAhead g root a) (sym s.1) (edge, reached, none))

        new : (x ≡ a) × (y ≡ b) → LeadsAhead g root x y × ((x < a) ⊎ ((x ≡ a) × ((k : ℕ) × (k < i + 1) × (k < length (successors_of g a)) × (get_or (successors_of g a) k 0 ≡ y))))
        new s = (leads s, inr (s.0, (i, omega arith, l, at ∙ sym s.1)))

        back : LeadsAhead g root x y → (x < a) ⊎ ((x ≡ a) × ((k : ℕ) × (k < i + 1) × (k < length (successors_of g a)) × (get_or (successors_of g a) k 0 ≡ y))) → HasEdge ahead x y ⊎ ((x ≡ a) × (y ≡ b))
        back h (inl m) = inl ((w x y).1 (h, inl m))
        back h (inr m) =
            let q = m.1.1 in
            ⊎_elim (λ (e : m.1.0 ≡ i). let is : b ≡ y = sym at ∙ (ap (λ (k : ℕ). get_or (successors_of g a) k 0) (sym e) ∙ m.1.3) in inr (m.0, sym is)) (λ (n : m.1.0 ≢ i). inl ((w x y).1 (h, inr (m.0, (m.1.0, omega arith, m.1.2, m.1.3))))) (cases_eq m.1.0 i)

  pub AreAheadTo-more : (i : ℕ) (ahead : List (List ℕ)) → length (successors_of g a) ≤ i → AreAheadAt g root a i ahead → AreAheadTo g root (a + 1) ahead
  AreAheadTo-more i ahead all w x y =
      (λ e. let h = (w x y).0 e in (h.0, ⊎_elim (λ (l : x < a). let m : x < a + 1 = omega arith in m) (λ (n : (x ≡ a) × ((k : ℕ) × (k < i) × (k < length (successors_of g a)) × (get_or (successors_of g a) k 0 ≡ y))). let s = n.0 in let m : x < a + 1 = omega arith in m) h.1), λ h. (w x y).1 (h.0, at h.0.0 h.1 (cases_eq x a)))
    where
      at : HasEdge g x y → x < a + 1 → (x ≡ a) ⊎ (x ≢ a) → (x < a) ⊎ ((x ≡ a) × ((k : ℕ) × (k < i) × (k < length (successors_of g a)) × (get_or (successors_of g a) k 0 ≡ y)))
      at e l (inr n) = inl (omega arith)
      at e l (inl s) =
          let c = subst (λ (z : ℕ). HasEdge g z y) s e in
          let m = c.1 in
          inr (s, (c.0, omega arith, c.1, get_or_default (successors_of g a) c.0 0 y c.1 ∙ c.2))

pub IsAhead-all : (g : List (List ℕ)) (root n : ℕ) (ahead : List (List ℕ)) → length ahead ≡ length g → length g ≤ n → AreAheadTo g root n ahead → IsAhead g root ahead
IsAhead-all g root n ahead e all w =
    record { nodes = e; edges = λ x y. (λ h. ((w x y).0 h).0, λ h. let l = edge_source g x y h.0 in (w x y).1 (h, omega arith)) }

module _ (g : List (List ℕ)) (ends : EndsAtNodes g) (root : ℕ) (ahead : List (List ℕ)) (h : IsAhead g root ahead) where
  closes_of : (rest : List ℕ) (x b a : ℕ) → HasEdge ahead x b → Leads ahead b rest a → (ys : List ℕ) × Closes ahead a x ys
  closes_of [] x b a e l = ([], subst (HasEdge ahead x) l e)
  closes_of (c ∷ rest) x b a e l = let r = closes_of rest b c a l.0 l.1 in (b ∷ r.0, (e, r.1))

  closes_in : (a x : ℕ) (ys : List ℕ) → Closes ahead a x ys → Closes g a x ys
  closes_in a x [] c = ((h.edges x a).0 c).0
  closes_in a x (y ∷ ys) c = (((h.edges x y).0 c.0).0, closes_in a y ys c.1)

  -- no cycle
  no_cycle : (a : ℕ) (ys : List ℕ) → Closes ahead a a ys → Reaches g root a → ⊥
  no_cycle a ys c r =
      let top = cycle_top g root (first_to g root) a ys r (closes_in a a ys c) in
      let e = edge_on ahead (LiesOnFirstPath g root top.0) a top.0 ys c top.2 top.1 in
      ((h.edges e.0 top.0).0 e.1).2 e.2

  together_one : (x y : ℕ) → Reaches ahead x y → Reaches ahead y x → x ≡ y
  together_one x y p q = at p.0 p.1.leads
    where
      at : (rest : List ℕ) → Leads ahead x rest y → x ≡ y
      at [] l = l
      at (z ∷ rest) l =
          let c = closes_of (rest ++ q.0) x z x l.0 (leads_on ahead rest q.0 z y x l.1 q.1.leads) in
          absurd (no_cycle x c.0 c.1 ((h.edges x z).0 l.0).1)

  module _ (numbers : List ℕ) (components : AreComponents ahead numbers) where
    pub one_node : (x y : ℕ) → x < length g → y < length g → get_or numbers x 0 ≡ get_or numbers y 0 → x ≡ y
    one_node x y l m e =
        let n = h.nodes in
        let t = (components.together x y (omega arith) (omega arith)).0 e in
        together_one x y t.0 t.1

    -- numbers fall along edges that lead ahead
    falls : (x y : ℕ) → LeadsAhead g root x y → get_or numbers y 0 < get_or numbers x 0
    falls x y leads =
        let n = h.nodes in
        let l = edge_source g x y leads.0 in
        let m = ends x y leads.0 in
        let d = components.callees x y ((h.edges x y).1 leads) (omega arith) in
        ⊎_elim (λ (e : get_or numbers x 0 ≡ get_or numbers y 0). let same = one_node x y l m e in let p = first_to g root x leads.1 in absurd (leads.2 (subst (λ (z : ℕ). LiesOnFirstPath g root z x) same (on_itself g root p.0 x p.1)))) (λ (o : get_or numbers x 0 ≢ get_or numbers y 0). omega arith) (cases_eq (get_or numbers x 0) (get_or numbers y 0))

    pub IsForward-all : (order : List ℕ) → IsFallingTo g root numbers 0 order → IsForward g root order
    IsForward-all order w =
        record {
          held = λ x. (λ c. ((w.held x).0 c).0, λ r. (w.held x).1 (r, omega arith));
          once = λ i j l m e. let d = w.falls i j l m in let same = ap (λ (z : ℕ). get_or numbers z 0) e in omega arith;
          forward = λ i j l m edge none. let x = get_or order i 0 in let y = get_or order j 0 in let r = ((w.held x).0 (Contains-get_or order i 0 l)).0 in let d = falls x y (edge, r, λ on. none (edge, on)) in ahead_of i j l m d;
        }
      where
        ahead_of : (i j : ℕ) → i < length order → j < length order → get_or numbers (get_or order j 0) 0 < get_or numbers (get_or order i 0) 0 → i < j
        ahead_of i j l m d =
            ⊎_elim (λ (a : i < j). a) (λ (b : j ≤ i). ⊎_elim (λ (e : j ≡ i). let same = ap (λ (k : ℕ). get_or numbers (get_or order k 0) 0) e in absurd (omega arith)) (λ (n : j ≢ i). let q = w.falls j i (omega arith) l in absurd (omega arith)) (cases_eq j i)) (cases_lt i j)

-- numbers of nodes, of which no two have one, and the node with each number
module _ (g : List (List ℕ)) (ends : EndsAtNodes g) (root : ℕ) (fits : root < length g) (numbers : List ℕ) (size : length numbers ≡ length g) (count : ℕ) (counted : AreCounted numbers count) (places : List ℕ) (placed : ArePlaced numbers (length g) places) where
  pub IsFallingTo-none : (order : List ℕ) → order ≡ [] → IsFallingTo g root numbers count order
  IsFallingTo-none order e =
      record {
        held = λ x. (λ c. absurd (Contains-nil x (subst (λ (xs : List ℕ). Contains xs x) e c)), λ h. let l = Reaches-node g ends root x fits h.0 in let m = counted.below x (omega arith) in let k = h.1 in absurd (omega arith));
        falls = λ i j l m. let z : length order ≡ 0 = ap length e in absurd (omega arith);
      }

  module _ (k : ℕ) (low : k < count) where
    pub place_node : get_or places k 0 < length g
    place_node =
        let x = counted.given k low in
        let m = x.1 in
        let l : x.0 < length g = omega arith in
        let is : get_or places k 0 ≡ x.0 = subst (λ (j : ℕ). get_or places j 0 ≡ x.0) x.2 (placed x.0 l) in
        omega arith

    number_at : get_or numbers (get_or places k 0) 0 ≡ k
    number_at =
        let x = counted.given k low in
        let m = x.1 in
        let l : x.0 < length g = omega arith in
        let is : get_or places k 0 ≡ x.0 = subst (λ (j : ℕ). get_or places j 0 ≡ x.0) x.2 (placed x.0 l) in
        ap (λ (y : ℕ). get_or numbers y 0) is ∙ x.2

    node_with : (y : ℕ) → y < length g → get_or numbers y 0 ≡ k → get_or places k 0 ≡ y
    node_with y l e = subst (λ (j : ℕ). get_or places j 0 ≡ y) e (placed y l)

    module _ (order : List ℕ) (w : IsFallingTo g root numbers (k + 1) order) where
      -- the node with number k isn't reached
      pub IsFallingTo-skip : (Reaches g root (get_or places k 0) → ⊥) → IsFallingTo g root numbers k order
      IsFallingTo-skip none =
          record {
            held = λ y. (λ c. let h = (w.held y).0 c in let m = h.1 in (h.0, omega arith), λ h. let m = h.1 in ⊎_elim (λ (e : get_or numbers y 0 ≡ k). absurd (none (subst (Reaches g root) (sym (node_with y (Reaches-node g ends root y fits h.0) e)) h.0))) (λ (o : get_or numbers y 0 ≢ k). (w.held y).1 (h.0, omega arith)) (cases_eq (get_or numbers y 0) k));
            falls = w.falls;
          }

      -- or it is
      pub IsFallingTo-push : Reaches g root (get_or places k 0) → IsFallingTo g root numbers k (order ++ get_or places k 0 ∷ [])
      IsFallingTo-push reached =
          record {
            held = λ y. (λ c. ⊎_elim (λ (d : Contains order y). let h = (w.held y).0 d in let m = h.1 in let r : Reaches g root y × (k ≤ get_or numbers y 0) = (h.0, omega arith) in r) (λ (e : get_or places k 0 ≡ y). let n = number_at in let same = ap (λ (z : ℕ). get_or numbers z 0) e in let r : Reaches g root y × (k ≤ get_or numbers y 0) = (subst (Reaches g root) e reached, omega arith) in r) (Contains-push_cases order (get_or places k 0) y c), λ h. let m = h.1 in ⊎_elim (λ (e : get_or numbers y 0 ≡ k). subst (Contains (order ++ get_or places k 0 ∷ [])) (node_with y (Reaches-node g ends root y fits h.0) e) (Contains-push order (get_or places k 0))) (λ (o : get_or numbers y 0 ≢ k). Contains-append_left order (get_or places k 0 ∷ []) y ((w.held y).1 (h.0, omega arith))) (cases_eq (get_or numbers y 0) k));
            falls = λ i j l m. falls_at i j l m (cases_lt j (length order));
          }
        where
          falls_at : (i j : ℕ) → i < j → j < length (order ++ get_or places k 0 ∷ []) → (j < length order) ⊎ (length order ≤ j) → get_or numbers (get_or (order ++ get_or places k 0 ∷ []) j 0) 0 < get_or numbers (get_or (order ++ get_or places k 0 ∷ []) i 0) 0
          falls_at i j l m (inl q) =
              let a = get_or_append_left order (get_or places k 0 ∷ []) 0 j q in
              let b = get_or_append_left order (get_or places k 0 ∷ []) 0 i (omega arith) in
              let c = ap (λ (z : ℕ). get_or numbers z 0) a in
              let d = ap (λ (z : ℕ). get_or numbers z 0) b in
              let e = w.falls i j l q in
              omega arith
          falls_at i j l m (inr q) =
              let n = length_push order (get_or places k 0) in
              let e : length order ≡ j = omega arith in
              let a = get_or_push order (get_or places k 0) 0 j e in
              let b = get_or_append_left order (get_or places k 0 ∷ []) 0 i (omega arith) in
              let c = ap (λ (z : ℕ). get_or numbers z 0) a in
              let d = ap (λ (z : ℕ). get_or numbers z 0) b in
              let u = number_at in
              let v = ((w.held (get_or order i 0)).0 (Contains-get_or order i 0 (omega arith))).1 in
              omega arith

-- a step down, as it is read
module _ (g : List (List ℕ)) (ends : EndsAtNodes g) (root : ℕ) (fits : root < length g) (numbers : List ℕ) (size : length numbers ≡ length g) (places : List ℕ) (counted : AreCounted numbers (length places)) (placed : ArePlaced numbers (length g) places) (k x : ℕ) (some : 0 < k) (low : k ≤ length places) (at : x ≡ get_or places (k - 1) x) where
  is_place : x ≡ get_or places (k - 1) 0
  is_place = at ∙ get_or_default places (k - 1) x 0 (omega arith)

  pub fall_node : x < length g
  fall_node =
      subst (λ (y : ℕ). y < length g) (sym is_place) (place_node g ends root fits numbers size (length places) counted places placed (k - 1) (omega arith))

  module _ (order : List ℕ) (w : IsFallingTo g root numbers k order) where
    was : IsFallingTo g root numbers (k - 1 + 1) order
    was = let e : k ≡ k - 1 + 1 = omega arith in subst (λ (n : ℕ). IsFallingTo g root numbers n order) e w

    pub fall_skip : (Reaches g root x → ⊥) → IsFallingTo g root numbers (k - 1) order
    fall_skip none =
        IsFallingTo-skip g ends root fits numbers size (length places) counted places placed (k - 1) (omega arith) order was (λ r. none (subst (Reaches g root) (sym is_place) r))

    pub fall_push : Reaches g root x → (more : List ℕ) → more ≡ order ++ x ∷ [] → IsFallingTo g root numbers (k - 1) more
    fall_push r more e =
        subst (IsFallingTo g root numbers (k - 1)) (sym (e ∙ ap (λ (y : ℕ). order ++ y ∷ []) is_place)) (IsFallingTo-push g ends root fits numbers size (length places) counted places placed (k - 1) (omega arith) order was (subst (Reaches g root) is_place r))
