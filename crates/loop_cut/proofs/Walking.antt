-- Walks in a region.
use Rattle.std.proofs.Common.{◌≡◌, ◌≢◌, ◌⊎◌, inl, inr, ⊎_elim, ℕ, List, [], ◌∷◌, ◌++◌, Option, Some, None, All, refl, sym, ap, subst}
use Rattle.std.specs.Prelude.{Contains}
use Rattle.std.proofs.lemmas.Bool.{cases_eq}
use Rattle.std.proofs.lemmas.List.Elements.{All-cons, All-nil, All-head, All-tail, All-contains, Contains-append_right, Contains-append_cases}
use Rattle.common_laws.proofs.Members.{contains_head, contains_tail, contains_cases, contains_none}
use Rattle.graph_core.specs.Graphs.{HasEdge}
use Rattle.graph_core.specs.Paths.{Leads, Reaches, IsFirstPath, LiesOnFirstPath}
use Rattle.graph_core.specs.Components.{Closes}
use Rattle.graph_core.specs.Loops.{HasLoop, IsInLoop}
use Rattle.graph_core.proofs.Reach.{Reaches-itself, Reaches-before, Reaches-through}
use Rattle.graph_loops.specs.Nesting.{LiesWithin, IsInnermost, IsParent}
use Rattle.graph_loops.proofs.Firsts.{all_of, cut, on_both, on_past}
use Rattle.graph_loops.proofs.Insides.{on_inside, on_loop, apart_or_within, inside_reached}
use Rattle.graph_loops.proofs.Circles.{inside_before, cycle_loop}
use Rattle.loop_cut.specs.declared.point.Point.{Point}
use Rattle.loop_cut.specs.declared.point.Point.TheVariants as points
use Rattle.loop_cut.specs.Regions.{IsExit, IsPointIn, IsOf, LeadsTo, place_of, StepsTo, IsEntryOf, Walks, AreOnce}
use Rattle.loop_cut.specs.Laws.{HasOneEntries}

module _ (g : List (List ℕ)) (root : ℕ) (one : HasOneEntries g root) where
  pub enters : (h x y : ℕ) → Reaches g root x → HasEdge g x y → (IsInLoop g root h x → ⊥) → IsInLoop g root h y → y ≡ h
  enters h x y reached edge out (inl e) = e
  enters h x y reached edge out (inr l) = absurd (one h y (record { inside = l; source = x; reached = reached; edge = edge; outside = out }))

  -- two loops with nodes of each other
  pub loops_same : (h k : ℕ) → HasLoop g root h → HasLoop g root k → IsInLoop g root h k → IsInLoop g root k h → h ≡ k
  loops_same h k begins_h begins_k in_h in_k =
      on_both g root h k (on_inside g root h k (on_loop g root h begins_h) in_h) (on_inside g root k h (on_loop g root k begins_k) in_k)

  module _ (region : Option ℕ) where
    -- a node of the region itself lies in no loop directly inside
    outside_of : (a k : ℕ) (r : Option ℕ) → IsInnermost g root a r → HasLoop g root k → IsParent g root k r → IsInLoop g root k a → ⊥
    outside_of a k None inner begins parent i = inner k (begins, i)
    outside_of a k (Some h) inner begins parent i =
        parent.1 (loops_same h k parent.0.0 begins parent.0.1 (inner.1 k (begins, i) h (inl refl)))

    -- a loop directly inside lies in no other one
    not_within : (j k : ℕ) (r : Option ℕ) → HasLoop g root j → IsParent g root j r → HasLoop g root k → IsParent g root k r → k ≢ j → LiesWithin g root j k → ⊥
    not_within j k None begins_j up_j begins_k up_k other within = other (up_j k (begins_k, within j (inl refl)))
    not_within j k (Some h) begins_j up_j begins_k up_k other within =
        up_k.1 (loops_same h k up_k.0.0 begins_k up_k.0.1 (up_j.2 k (begins_k, within j (inl refl)) other h (inl refl)))

    record Comes (p : Point) (x : ℕ) : Type 0 where
      source : ℕ
      of_point : IsOf g root p source
      edge : HasEdge g source x
      reached : Reaches g root source

    comes : (p : Point) (x : ℕ) → IsPointIn g root region p → Reaches g root (place_of p) → LeadsTo g root p x → Comes p x
    comes (points.Block a) x point reached leads = record { source = a; of_point = refl; edge = leads; reached = reached }
    comes (points.Loop k) x point reached leads =
        record { source = leads.1.0; of_point = leads.1.1; edge = leads.1.2; reached = inside_reached g root k leads.1.0 point.0 leads.1.1 }

    source_outside : (p : Point) (k x a : ℕ) → IsPointIn g root region p → HasLoop g root k → IsParent g root k region → LeadsTo g root p x → IsInLoop g root k x → IsOf g root p a → IsInLoop g root k a → ⊥
    source_outside (points.Block b) k x a point begins parent leads lies of i =
        outside_of b k region point begins parent (subst (IsInLoop g root k) of i)
    source_outside (points.Loop j) k x a point begins parent leads lies of i =
        ⊎_elim (λ (w : LiesWithin g root j k). not_within j k region point.0 point.1 begins parent (λ e. leads.0 (subst (λ (z : ℕ). IsInLoop g root z x) e lies)) w)
        (λ (w : LiesWithin g root k j). leads.0 (w x lies)) (apart_or_within g root j k a of i)

    -- a point is come to at its place
    target_place : (p q : Point) (x : ℕ) → IsPointIn g root region p → Reaches g root (place_of p) → IsPointIn g root region q → LeadsTo g root p x → IsOf g root q x → x ≡ place_of q
    target_place p (points.Block b) x point reached target leads lies = lies
    target_place p (points.Loop k) x point reached target leads lies =
        let c = comes p x point reached leads in
        enters k c.source x c.reached c.edge (source_outside p k x c.source point target.0 target.1 leads lies c.of_point) lies

    record IsGood (p : Point) : Type 0 where
      point : IsPointIn g root region p
      other : IsEntryOf region p → ⊥
      reached : Reaches g root (place_of p)

    reached_next : (p q : Point) → IsPointIn g root region p → Reaches g root (place_of p) → StepsTo g root region p q → Reaches g root (place_of q)
    reached_next p q point reached s =
        let c = comes p s.node point reached s.leads in
        let same = target_place p q s.node point reached s.point s.leads s.lies in
        subst (Reaches g root) same (Reaches-through g root c.source s.node c.reached (Reaches-before g c.source s.node s.node c.edge (Reaches-itself g s.node)))

    -- ---- the nodes of a walk

    close : (y a x : ℕ) (rest : List ℕ) → Leads g y rest a → HasEdge g a x → Closes g x y rest
    close y a x [] l edge = subst (λ (z : ℕ). HasEdge g z x) (sym l) edge
    close y a x (z ∷ rest) l edge = (l.0, close z a x rest l.1 edge)

    join : (x y b : ℕ) (r s : List ℕ) → Closes g y x r → Closes g b y s → Closes g b x (r ++ y ∷ s)
    join x y b [] s c d = (c, d)
    join x y b (w ∷ r) s c d = (c.0, join w y b r s c.1 d)

    inside_along : (k y a : ℕ) (rest : List ℕ) → Leads g y rest a → All (LiesOnFirstPath g root k) (y ∷ rest) → IsInLoop g root k a → All (IsInLoop g root k) (y ∷ rest)
    inside_along k y a [] l on i = All-cons (IsInLoop g root k) y [] (subst (IsInLoop g root k) (sym l) i) (All-nil (IsInLoop g root k))
    inside_along k y a (z ∷ rest) l on i =
        let more = inside_along k z a rest l.1 (All-tail (LiesOnFirstPath g root k) y (z ∷ rest) on) i in
        All-cons (IsInLoop g root k) y (z ∷ rest) (inside_before g root k y z l.0 (All-head (LiesOnFirstPath g root k) y (z ∷ rest) on) (All-head (IsInLoop g root k) z rest more) (cases_eq y k)) more

    record Nodes (p : Point) (x : ℕ) : Type 0 where
      rest : List ℕ
      closes : Closes g x (place_of p) rest
      of_point : All (IsOf g root p) (place_of p ∷ rest)

    loop_nodes : (k x : ℕ) → HasLoop g root k → IsExit g root k x → Nodes (points.Loop k) x
    loop_nodes k x begins leads =
        let a = leads.1.0 in
        let on = on_inside g root k a (on_loop g root k begins) leads.1.1 in
        let s = cut g root k a on in
        let first = subst (λ (path : List ℕ). IsFirstPath g root path a) s.is on.1 in
        record {
          rest = s.after;
          closes = close k a x s.after s.from leads.1.2;
          of_point = inside_along k k a s.after s.from (all_of (LiesOnFirstPath g root k) (k ∷ s.after) (λ z c. on_past g root k a s.before s.after s.first s.from first z c)) leads.1.1;
        }

    nodes_of : (p : Point) (x : ℕ) → IsPointIn g root region p → LeadsTo g root p x → Nodes p x
    nodes_of (points.Block a) x point leads = record { rest = []; closes = leads; of_point = All-cons (λ (z : ℕ). z ≡ a) a [] refl (All-nil (λ (z : ℕ). z ≡ a)) }
    nodes_of (points.Loop k) x point leads = loop_nodes k x point.0 leads

    -- from a point through these to another one
    abbrev WalksTo : Point → List Point → Point → Type 0
    WalksTo p [] b = IsGood p × StepsTo g root region p b
    WalksTo p (q ∷ mid) b = IsGood p × StepsTo g root region p q × WalksTo q mid b

    record Trip (p : Point) (mid : List Point) (b : Point) : Type 0 where
      rest : List ℕ
      closes : Closes g (place_of b) (place_of p) rest
      from : (z : ℕ) → Contains (place_of p ∷ rest) z → (q : Point) × Contains (p ∷ mid) q × IsOf g root q z
      has : (q : Point) → Contains (p ∷ mid) q → Contains (place_of p ∷ rest) (place_of q)

    step_nodes : (p q : Point) → IsGood p → StepsTo g root region p q → Nodes p (place_of q)
    step_nodes p q good s =
        let n = nodes_of p s.node good.point s.leads in
        subst (Nodes p) (target_place p q s.node good.point good.reached s.point s.leads s.lies) n

    trip : (p : Point) (mid : List Point) (b : Point) → WalksTo p mid b → Trip p mid b
    trip p [] b w =
        let n = step_nodes p b w.0 w.1 in
        record {
          rest = n.rest;
          closes = n.closes;
          from = λ z c. (p, contains_head p [], All-contains (IsOf g root p) (place_of p ∷ n.rest) z n.of_point c);
          has = λ q c. elim (contains_cases p [] q c) [
            | inl e ↦ subst (λ (r : Point). Contains (place_of p ∷ n.rest) (place_of r)) e (contains_head (place_of p) n.rest)
            | inr past ↦ absurd (contains_none q past)
          ];
        }
    trip p (q ∷ mid) b w =
        let n = step_nodes p q w.0 w.1 in
        let t = trip q mid b w.2 in
        record {
          rest = n.rest ++ place_of q ∷ t.rest;
          closes = join (place_of p) (place_of q) (place_of b) n.rest t.rest n.closes t.closes;
          from = λ z c. elim (Contains-append_cases (place_of p ∷ n.rest) (place_of q ∷ t.rest) z c) [
            | inl here ↦ (p, contains_head p (q ∷ mid), All-contains (IsOf g root p) (place_of p ∷ n.rest) z n.of_point here)
            | inr later ↦ let f = t.from z later in (f.0, contains_tail p (q ∷ mid) f.0 f.1, f.2)
          ];
          has = λ r c. elim (contains_cases p (q ∷ mid) r c) [
            | inl e ↦ subst (λ (s : Point). Contains (place_of p ∷ n.rest ++ place_of q ∷ t.rest) (place_of s)) e (contains_head (place_of p) (n.rest ++ place_of q ∷ t.rest))
            | inr later ↦ Contains-append_right (place_of p ∷ n.rest) (place_of q ∷ t.rest) (place_of r) (t.has r later)
          ];
        }

    -- ---- no walk comes back

    good_of : (p : Point) (mid : List Point) (b q : Point) → WalksTo p mid b → Contains (p ∷ mid) q → IsGood q
    good_of p [] b q w c = elim (contains_cases p [] q c) [ inl e ↦ subst IsGood e w.0 | inr past ↦ absurd (contains_none q past) ]
    good_of p (r ∷ mid) b q w c = elim (contains_cases p (r ∷ mid) q c) [ inl e ↦ subst IsGood e w.0 | inr later ↦ good_of r mid b q w.2 later ]

    next_of : (p : Point) (mid : List Point) (b q : Point) → WalksTo p mid b → Contains (p ∷ mid) q → (r : Point) × StepsTo g root region q r × (Contains mid r ⊎ (r ≡ b))
    next_of p [] b q w c = elim (contains_cases p [] q c) [ inl e ↦ (b, subst (λ (s : Point). StepsTo g root region s b) e w.1, inr refl) | inr past ↦ absurd (contains_none q past) ]
    next_of p (r ∷ mid) b q w c = elim (contains_cases p (r ∷ mid) q c) [
      | inl e ↦ (r, subst (λ (s : Point). StepsTo g root region s r) e w.1, inl (contains_head r mid))
      | inr later ↦
          let n = next_of r mid b q w.2 later in
          (n.0, n.1, elim n.2 [ inl d ↦ inl (contains_tail r mid n.0 d) | inr e ↦ inr e ])
    ]

    block_not : (a h : ℕ) (r : Option ℕ) → h ≡ a → HasLoop g root h → IsInnermost g root a r → (IsEntryOf r (points.Block a) → ⊥) → ⊥
    block_not a h None e begins inner other = inner a (subst (HasLoop g root) e begins, inl refl)
    block_not a h (Some k) e begins inner other =
        let here : HasLoop g root a = subst (HasLoop g root) e begins in
        other (ap (λ (z : ℕ). points.Block z) (loops_same a k here inner.0.0 (inner.1 a (here, inl refl) k (inl refl)) inner.0.1))

    loop_not : (p : Point) (mid : List Point) (w : WalksTo p mid p) (t : Trip p mid p) (h k : ℕ) → HasLoop g root h → All (IsInLoop g root h) (place_of p ∷ t.rest) → Contains (p ∷ mid) (points.Loop k) → IsInLoop g root k h → ⊥
    loop_not p mid w t h k begins all c inside =
        let good = good_of p mid p (points.Loop k) w c in
        let there = All-contains (IsInLoop g root h) (place_of p ∷ t.rest) k all (t.has (points.Loop k) c) in
        let same : h ≡ k = loops_same h k begins good.point.0 there inside in
        let n = next_of p mid p (points.Loop k) w c in
        let r_in : Contains (p ∷ mid) n.0 = elim n.2 [ inl d ↦ contains_tail p mid n.0 d | inr e ↦ subst (Contains (p ∷ mid)) (sym e) (contains_head p mid) ] in
        let at = All-contains (IsInLoop g root h) (place_of p ∷ t.rest) (place_of n.0) all (t.has n.0 r_in) in
        let place = target_place (points.Loop k) n.0 n.1.node good.point good.reached n.1.point n.1.leads n.1.lies in
        n.1.leads.0 (subst (λ (z : ℕ). IsInLoop g root z n.1.node) same (subst (IsInLoop g root h) (sym place) at))

    point_not : (p : Point) (mid : List Point) (w : WalksTo p mid p) (t : Trip p mid p) (h : ℕ) → HasLoop g root h → All (IsInLoop g root h) (place_of p ∷ t.rest) → (q : Point) → Contains (p ∷ mid) q → IsOf g root q h → ⊥
    point_not p mid w t h begins all (points.Block a) c of =
        let good = good_of p mid p (points.Block a) w c in
        block_not a h region of begins good.point good.other
    point_not p mid w t h begins all (points.Loop k) c of = loop_not p mid w t h k begins all c of

    no_return : (p : Point) (mid : List Point) → WalksTo p mid p → ⊥
    no_return p mid w =
        let t = trip p mid p w in
        let good = good_of p mid p p w (contains_head p mid) in
        let l = cycle_loop g root (place_of p) t.rest good.reached t.closes in
        let f = t.from l.0 l.1 in
        point_not p mid w t l.0 l.2 l.3 f.0 f.1 f.2

    next_good : (p q : Point) → IsPointIn g root region p → Reaches g root (place_of p) → StepsTo g root region p q → (IsEntryOf region q → ⊥) → IsGood q
    next_good p q point reached s other = record { point = s.point; other = other; reached = reached_next p q point reached s }

    to_member : (p : Point) (rest : List Point) (b : Point) → IsGood p → Walks g root region p rest → Contains rest b → (mid : List Point) × WalksTo p mid b
    to_member p [] b good w c = absurd (contains_none b c)
    to_member p (q ∷ rest) b good w c = elim (contains_cases q rest b c) [
      | inl e ↦ ([], (good, subst (StepsTo g root region p) e w.0))
      | inr later ↦
          let m = to_member q rest b (next_good p q good.point good.reached w.0 w.1) w.2 later in
          (q ∷ m.0, (good, w.0, m.1))
    ]

    member_good : (p : Point) (rest : List Point) (b : Point) → IsPointIn g root region p → Reaches g root (place_of p) → Walks g root region p rest → Contains rest b → IsGood b
    member_good p [] b point reached w c = absurd (contains_none b c)
    member_good p (q ∷ rest) b point reached w c =
        let good = next_good p q point reached w.0 w.1 in
        elim (contains_cases q rest b c) [ inl e ↦ subst IsGood e good | inr later ↦ member_good q rest b good.point good.reached w.2 later ]

    pub walks_once : (p : Point) (rest : List Point) → IsPointIn g root region p → Reaches g root (place_of p) → Walks g root region p rest → AreOnce (p ∷ rest)
    walks_once p [] point reached w = (λ c. contains_none p c, tt)
    walks_once p (q ∷ rest) point reached w =
        let good = next_good p q point reached w.0 w.1 in (
          λ c. let m = to_member p (q ∷ rest) p (member_good p (q ∷ rest) p point reached w c) w c in no_return p m.0 m.1,
          walks_once q rest good.point good.reached w.2,
        )
