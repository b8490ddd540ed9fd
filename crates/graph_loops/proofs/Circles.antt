-- a cycle has a node that lies on the first path to each of its nodes
use Rattle.std.proofs.Common.{◌≡◌, ◌≢◌, ◌⊎◌, ℕ, List, [], ◌∷◌, ◌++◌, All, Contains, refl, sym, ◌∙◌, ap, inl, inr, ⊎_elim, subst, append_assoc}
use Rattle.std.proofs.lemmas.Bool.{cases_eq}
use Rattle.std.proofs.lemmas.List.Elements.{All-cons, All-head, All-tail, All-nil, All-contains, Contains-append_left}
use Rattle.graph_core.specs.Graphs.{HasEdge}
use Rattle.graph_core.specs.Paths.{Leads, IsPath, Reaches, IsNotAfter, IsFirstPath, LiesOnFirstPath}
use Rattle.graph_core.specs.Components.{Closes}
use Rattle.graph_core.specs.Loops.{HasLoop, IsInLoop}
use Rattle.graph_core.proofs.Lists.{Contains-cons_cases, Contains-tail, Contains-head, Contains-nil, cases_Contains}
use Rattle.graph_core.proofs.Orders.{first_path_one}
use Rattle.graph_core.proofs.Marks.{loops_back_source, loops_back_before}
use Rattle.graph_core.proofs.Reach.{Reaches-itself, Reaches-before, Reaches-through}
use Rattle.graph_loops.proofs.FirstPaths.{first_to}
use Rattle.graph_loops.proofs.Firsts.{Before, cases_before, before_not_after, not_after_itself, not_after_through, continued, not_longer, leads_on, end_in, no_repeat_push, Cut, cut, on_itself, on_chain}

-- An edge from what h lies before leads to what h lies before, or to what comes before h.
module _ (g : List (List ℕ)) (root : ℕ) (h : ℕ) (p : List ℕ) (first : IsFirstPath g root p h) where
  step_on : (y z : ℕ) → HasEdge g y z → LiesOnFirstPath g root h y → (q : List ℕ) → IsFirstPath g root q z → IsNotAfter p q → LiesOnFirstPath g root h z
  step_on y z edge on q to after = at (cases_Contains (root ∷ on.0) z)
    where
      s : Cut g root on.0 h y
      s = cut g root h y on

      same : s.before ≡ p
      same = first_path_one g root h s.before p s.first first

      is : on.0 ≡ p ++ s.after
      is = s.is ∙ ap (λ (xs : List ℕ). xs ++ s.after) same

      over : LiesOnFirstPath g root z h → LiesOnFirstPath g root h z
      over up =
          let t = cut g root z h up in
          let up_is : up.0 ≡ p = first_path_one g root h up.0 p up.1 first in
          let to_is : t.before ≡ q = first_path_one g root z t.before q t.first to in
          let whole : p ≡ q ++ t.after = sym up_is ∙ (t.is ∙ ap (λ (xs : List ℕ). xs ++ t.after) to_is) in
          let none : t.after ≡ [] = not_longer q t.after (subst (λ (xs : List ℕ). IsNotAfter xs q) whole after) in
          let e : z ≡ h = subst (λ (xs : List ℕ). Leads g z xs h) none t.from in
          subst (LiesOnFirstPath g root h) (sym e) (on_itself g root p h first)

      new : (Contains (root ∷ on.0) z → ⊥) → IsPath g root (on.0 ++ z ∷ []) z
      new n =
          record { leads = leads_on g on.0 (z ∷ []) root y z on.1.path.leads (edge, refl); no_repeat = no_repeat_push g (root ∷ on.0) z on.1.path.no_repeat n }

      at : Contains (root ∷ on.0) z ⊎ (Contains (root ∷ on.0) z → ⊥) → LiesOnFirstPath g root h z
      at (inl c) =
          ⊎_elim (λ (a : LiesOnFirstPath g root h z). a) over (on_chain g root h z y on (on.0, on.1, c))
      at (inr n) =
          let low = to.first (on.0 ++ z ∷ []) (new n) in
          let whole : on.0 ++ z ∷ [] ≡ p ++ (s.after ++ z ∷ []) = ap (λ (xs : List ℕ). xs ++ z ∷ []) is ∙ append_assoc p s.after (z ∷ []) in
          let more = continued p q (s.after ++ z ∷ []) after (subst (IsNotAfter q) whole low) in
          (q, to, subst (λ (xs : List ℕ). Contains (root ∷ xs) h) (sym more.1) (Contains-append_left (root ∷ p) more.0 h (end_in g p root h first.path.leads)))

module _ (g : List (List ℕ)) (root : ℕ) (firsts : (x : ℕ) → Reaches g root x → (p : List ℕ) × IsFirstPath g root p x) where
  -- of some nodes, the one whose first path comes before those of the others
  pub record Least (xs : List ℕ) : Type 0 where
    pub node : ℕ
    pub among : Contains xs node
    pub path : List ℕ
    pub first : IsFirstPath g root path node
    pub least : (y : ℕ) (q : List ℕ) → Contains xs y → IsFirstPath g root q y → IsNotAfter path q

  one : (x : ℕ) → Reaches g root x → Least (x ∷ [])
  one x r =
      let p = firsts x r in
      record {
        node = x;
        among = Contains-head x [];
        path = p.0;
        first = p.1;
        least = λ y q c f. ⊎_elim (λ (e : x ≡ y). subst (IsNotAfter p.0) (first_path_one g root y p.0 q (subst (IsFirstPath g root p.0) e p.1) f) (not_after_itself p.0)) (λ (d : Contains [] y). absurd (Contains-nil y d)) (Contains-cons_cases x [] y c);
      }

  more : (x : ℕ) (xs : List ℕ) → Reaches g root x → Least xs → Least (x ∷ xs)
  more x xs r l = at (cases_before l.path p.0)
    where
      p : (q : List ℕ) × IsFirstPath g root q x
      p = firsts x r

      own : (q : List ℕ) (y : ℕ) → x ≡ y → IsFirstPath g root q y → p.0 ≡ q
      own q y e f = first_path_one g root y p.0 q (subst (IsFirstPath g root p.0) e p.1) f

      at : IsNotAfter l.path p.0 ⊎ Before p.0 l.path → Least (x ∷ xs)
      at (inl n) =
          record {
            node = l.node;
            among = Contains-tail x xs l.node l.among;
            path = l.path;
            first = l.first;
            least = λ y q c f. ⊎_elim (λ (e : x ≡ y). subst (IsNotAfter l.path) (own q y e f) n) (λ (d : Contains xs y). l.least y q d f) (Contains-cons_cases x xs y c);
          }
      at (inr b) =
          record {
            node = x;
            among = Contains-head x xs;
            path = p.0;
            first = p.1;
            least = λ y q c f. ⊎_elim (λ (e : x ≡ y). subst (IsNotAfter p.0) (own q y e f) (not_after_itself p.0)) (λ (d : Contains xs y). not_after_through p.0 l.path q (before_not_after p.0 l.path b) (l.least y q d f)) (Contains-cons_cases x xs y c);
          }

  least_of : (x : ℕ) (xs : List ℕ) → All (Reaches g root) (x ∷ xs) → Least (x ∷ xs)
  least_of x [] all = one x (All-head (Reaches g root) x [] all)
  least_of x (y ∷ xs) all =
      more x (y ∷ xs) (All-head (Reaches g root) x (y ∷ xs) all) (least_of y xs (All-tail (Reaches g root) x (y ∷ xs) all))

  reached_on : (a x : ℕ) (xs : List ℕ) → Closes g a x xs → Reaches g root x → All (Reaches g root) (x ∷ xs)
  reached_on a x [] c r = All-cons (Reaches g root) x [] r (All-nil (Reaches g root))
  reached_on a x (y ∷ xs) c r =
      All-cons (Reaches g root) x (y ∷ xs) r (reached_on a y xs c.1 (Reaches-through g root x y r (Reaches-before g x y y c.0 (Reaches-itself g y))))

  -- round a cycle whose first node comes before the others
  module _ (a : ℕ) (rest : List ℕ) (all : All (Reaches g root) (a ∷ rest)) (l : Least (a ∷ rest)) where
    step : (y z : ℕ) → HasEdge g y z → Contains (a ∷ rest) z → LiesOnFirstPath g root l.node y → LiesOnFirstPath g root l.node z
    step y z edge c on =
        let q = firsts z (All-contains (Reaches g root) (a ∷ rest) z all c) in
        step_on g root l.node l.path l.first y z edge on q.0 q.1 (l.least z q.0 c q.1)

    along : (x : ℕ) (xs : List ℕ) → Closes g a x xs → ((y : ℕ) → Contains (x ∷ xs) y → Contains (a ∷ rest) y) → LiesOnFirstPath g root l.node x → All (LiesOnFirstPath g root l.node) (x ∷ xs) × LiesOnFirstPath g root l.node a
    along x [] c sub on =
        (All-cons (LiesOnFirstPath g root l.node) x [] on (All-nil (LiesOnFirstPath g root l.node)), step x a c (Contains-head a rest) on)
    along x (y ∷ xs) c sub on =
        let here = step x y c.0 (sub y (Contains-tail x (y ∷ xs) y (Contains-head y xs))) on in
        let more = along y xs c.1 (λ z d. sub z (Contains-tail x (y ∷ xs) z d)) here in
        (All-cons (LiesOnFirstPath g root l.node) x (y ∷ xs) on more.0, more.1)

    -- from the node on to the end, and so to the beginning
    to_start : (x : ℕ) (xs : List ℕ) → Closes g a x xs → ((y : ℕ) → Contains (x ∷ xs) y → Contains (a ∷ rest) y) → Contains (x ∷ xs) l.node → LiesOnFirstPath g root l.node a
    to_start x [] c sub d =
        ⊎_elim (λ (e : x ≡ l.node). (along x [] c sub (subst (LiesOnFirstPath g root l.node) (sym e) (on_itself g root l.path l.node l.first))).1) (λ (n : Contains [] l.node). absurd (Contains-nil l.node n)) (Contains-cons_cases x [] l.node d)
    to_start x (y ∷ xs) c sub d =
        ⊎_elim (λ (e : x ≡ l.node). (along x (y ∷ xs) c sub (subst (LiesOnFirstPath g root l.node) (sym e) (on_itself g root l.path l.node l.first))).1) (λ (n : Contains (y ∷ xs) l.node). to_start y xs c.1 (λ z f. sub z (Contains-tail x (y ∷ xs) z f)) n) (Contains-cons_cases x (y ∷ xs) l.node d)

  -- A node of a cycle of what the root reaches lies on the first paths to all its nodes.
  pub cycle_top : (a : ℕ) (rest : List ℕ) → Reaches g root a → Closes g a a rest → (h : ℕ) × Contains (a ∷ rest) h × All (LiesOnFirstPath g root h) (a ∷ rest)
  cycle_top a rest r c =
      let all = reached_on a a rest c r in
      let l = least_of a rest all in
      (l.node, l.among, (along a rest all l a rest c (λ y d. d) (to_start a rest all l a rest c (λ y d. d) l.among)).0)

-- the edge of a cycle that leads to h
pub edge_to : (g : List (List ℕ)) (P : ℕ → Type 0) (a h x : ℕ) (xs : List ℕ) → Closes g a x xs → All P (x ∷ xs) → Contains xs h ⊎ (h ≡ a) → (y : ℕ) × HasEdge g y h × P y
edge_to g P a h x [] c all (inl d) = absurd (Contains-nil h d)
edge_to g P a h x [] c all (inr e) = (x, subst (HasEdge g x) (sym e) c, All-head P x [] all)
edge_to g P a h x (y ∷ xs) c all (inl d) =
    ⊎_elim (λ (e : y ≡ h). (x, subst (HasEdge g x) e c.0, All-head P x (y ∷ xs) all)) (λ (f : Contains xs h). edge_to g P a h y xs c.1 (All-tail P x (y ∷ xs) all) (inl f)) (Contains-cons_cases y xs h d)
edge_to g P a h x (y ∷ xs) c all (inr e) = edge_to g P a h y xs c.1 (All-tail P x (y ∷ xs) all) (inr e)

pub edge_on : (g : List (List ℕ)) (P : ℕ → Type 0) (a h : ℕ) (rest : List ℕ) → Closes g a a rest → All P (a ∷ rest) → Contains (a ∷ rest) h → (y : ℕ) × HasEdge g y h × P y
edge_on g P a h rest c all d =
    edge_to g P a h a rest c all (⊎_elim (λ (e : a ≡ h). inr (sym e)) (λ (f : Contains rest h). inl f) (Contains-cons_cases a rest h d))

module _ (g : List (List ℕ)) (root h : ℕ) where
  pub inside_before : (x y : ℕ) → HasEdge g x y → LiesOnFirstPath g root h x → IsInLoop g root h y → (x ≡ h) ⊎ (x ≢ h) → IsInLoop g root h x
  inside_before x y edge on i (inl e) = inl e
  inside_before x y edge on (inl e) (inr n) =
      inr (loops_back_source g root h x (subst (HasEdge g x) e edge) (on, n))
  inside_before x y edge on (inr l) (inr n) = inr (loops_back_before g root h x y edge (on, n) l)

  -- what leads to h round the cycle is in its loop
  to_inside : (a x : ℕ) (xs : List ℕ) → Closes g a x xs → All (LiesOnFirstPath g root h) (x ∷ xs) → Contains (x ∷ xs) h → IsInLoop g root h x
  to_inside a x [] c all d =
      ⊎_elim (λ (e : x ≡ h). inl e) (λ (n : Contains [] h). absurd (Contains-nil h n)) (Contains-cons_cases x [] h d)
  to_inside a x (y ∷ xs) c all d =
      ⊎_elim (λ (e : x ≡ h). inl e) (λ (n : Contains (y ∷ xs) h). inside_before x y c.0 (All-head (LiesOnFirstPath g root h) x (y ∷ xs) all) (to_inside a y xs c.1 (All-tail (LiesOnFirstPath g root h) x (y ∷ xs) all) n) (cases_eq x h)) (Contains-cons_cases x (y ∷ xs) h d)

  all_inside : (a x : ℕ) (xs : List ℕ) → Closes g a x xs → All (LiesOnFirstPath g root h) (x ∷ xs) → IsInLoop g root h a → All (IsInLoop g root h) (x ∷ xs)
  all_inside a x [] c all i =
      All-cons (IsInLoop g root h) x [] (inside_before x a c (All-head (LiesOnFirstPath g root h) x [] all) i (cases_eq x h)) (All-nil (IsInLoop g root h))
  all_inside a x (y ∷ xs) c all i =
      let more = all_inside a y xs c.1 (All-tail (LiesOnFirstPath g root h) x (y ∷ xs) all) i in
      All-cons (IsInLoop g root h) x (y ∷ xs) (inside_before x y c.0 (All-head (LiesOnFirstPath g root h) x (y ∷ xs) all) (All-head (IsInLoop g root h) y xs more) (cases_eq x h)) more

  pub cycle_inside : (a : ℕ) (rest : List ℕ) → Closes g a a rest → All (LiesOnFirstPath g root h) (a ∷ rest) → Contains (a ∷ rest) h → HasLoop g root h × All (IsInLoop g root h) (a ∷ rest)
  cycle_inside a rest c all d =
      let e = edge_on g (LiesOnFirstPath g root h) a h rest c all d in
      ((e.0, (e.1, e.2)), all_inside a a rest c all (to_inside a a rest c all d))

-- each cycle of what the root reaches lies in the loop of one of its nodes
pub cycle_loop : (g : List (List ℕ)) (root a : ℕ) (rest : List ℕ) → Reaches g root a → Closes g a a rest → (h : ℕ) × Contains (a ∷ rest) h × HasLoop g root h × All (IsInLoop g root h) (a ∷ rest)
cycle_loop g root a rest r c =
    let top = cycle_top g root (first_to g root) a rest r c in
    let l = cycle_inside g root top.0 a rest c top.2 top.1 in
    (top.0, top.1, l.0, l.1)
