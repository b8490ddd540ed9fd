-- What comes to a block by the lists that the code makes, and by the definition.
use Rattle.std.proofs.Common.{◌≡◌, ◌⊎◌, ◌↔◌, inl, inr, ℕ, ◌<◌, Bool, true, false, List, [], ◌∷◌, length, map, flat_map, Option, Some, None, refl, sym, ap, subst, ◌∙◌, arith}
use Rattle.std.specs.Prelude.{Contains, nat_eq, if◌then◌else◌}
use Rattle.std.proofs.lemmas.List.Elements.{Contains-append_left, Contains-append_right, Contains-append_cases}
use Rattle.common_laws.proofs.Members.{contains_head, contains_cases, contains_none, in_map, from_map, in_flat, from_flat}
use Rattle.graph_core.specs.Graphs.{HasEdge, EndsAtNodes, successors_of}
use Rattle.graph_core.specs.Loops.{HasLoop}
use Rattle.graph_core.specs.Nests.{Entered}
use Rattle.graph_loops.specs.Nesting.{LiesWithin, IsInnermost, IsParent, Nested, IsNested}
use Rattle.graph_loops.proofs.Firsts.{edge_source, on_both}
use Rattle.graph_loops.proofs.Insides.{on_inside, on_loop}
use Rattle.graph_loops.proofs.Arounds.{begins_at}
use Rattle.code_blocks.specs.declared.instruction.Block.{Block}
use Rattle.loop_cut.specs.declared.point.Point.{Point}
use Rattle.loop_cut.specs.declared.point.Point.TheVariants as points
use Rattle.loop_cut.specs.declared.found.CodeLoop.{CodeLoop}
use Rattle.loop_cut.specs.CodeLoops.{entered_of}
use Rattle.loop_cut.specs.Regions.{IsExit, ComesFrom, IsJoin, IsHead}
use Rattle.loop_cut.specs.inside.Gathered.{ExitsAre}
use Rattle.loop_cut.specs.inside.Arrivals.{AreTwo, is_same, innermost_at, parent_at, arrival, from_block, from_loop, arrivals}
use Rattle.loop_cut.proofs.Arriving.{IsEntry}

cases_of : (b : Bool) → (b ≡ true) ⊎ (b ≡ false)
cases_of true = inl refl
cases_of false = inr refl

-- ---- the same region

same_number : (a b : ℕ) → nat_eq a b ≡ true → a ≡ b
same_number a b e = search arith

number_same : (a : ℕ) → nat_eq a a ≡ true
number_same a = search arith

region_is : (a b : Option ℕ) → is_same a b ≡ true → a ≡ b
region_is None None e = refl
region_is None (Some b) e = let w : false ≡ true = e in absurd (cc)
region_is (Some a) None e = let w : false ≡ true = e in absurd (cc)
region_is (Some a) (Some b) e = ap (λ (n : ℕ). Some n) (same_number a b e)

region_same : (a : Option ℕ) → is_same a a ≡ true
region_same None = refl
region_same (Some a) = number_same a

module _ (g : List (List ℕ)) (root : ℕ) where
  -- two loops of which each lies in the other
  pub within_both : (h k : ℕ) → HasLoop g root h → HasLoop g root k → LiesWithin g root h k → LiesWithin g root k h → h ≡ k
  within_both h k begins_h begins_k up down =
      on_both g root h k (on_inside g root h k (on_loop g root h begins_h) (down k (inl refl))) (on_inside g root k h (on_loop g root k begins_k) (up h (inl refl)))

  pub innermost_one : (x : ℕ) (r s : Option ℕ) → IsInnermost g root x r → IsInnermost g root x s → r ≡ s
  innermost_one x None None h k = refl
  innermost_one x None (Some b) h k = absurd (h b k.0)
  innermost_one x (Some a) None h k = absurd (k a h.0)
  innermost_one x (Some a) (Some b) h k = ap (λ (n : ℕ). Some n) (within_both a b h.0.0 k.0.0 (h.1 b k.0) (k.1 a h.0))

  pub parent_one : (x : ℕ) (r s : Option ℕ) → IsParent g root x r → IsParent g root x s → r ≡ s
  parent_one x None None h k = refl
  parent_one x None (Some b) h k = absurd (k.1 (h b k.0))
  parent_one x (Some a) None h k = absurd (h.1 (k a h.0))
  parent_one x (Some a) (Some b) h k = ap (λ (n : ℕ). Some n) (within_both a b h.0.0 k.0.0 (h.2 b k.0 k.1) (k.2 a h.0 h.1))

-- ---- arrivals

module _ (n : Nested) (region : Option ℕ) (p : Point) where
  arrival_has : (x : ℕ) → region ≡ innermost_at n x → Contains (arrival n region p x) (x, p)
  arrival_has x e =
      let same : is_same region (innermost_at n x) ≡ true = subst (λ (r : Option ℕ). is_same region r ≡ true) e (region_same region) in
      subst (λ (b : Bool). Contains {X = ℕ × Point} (if b then (x, p) ∷ [] else []) (x, p)) (sym same) (contains_head (x, p) [])

  arrival_is : (y x : ℕ) (q : Point) → Contains (arrival n region p y) (x, q) → (y ≡ x) × (p ≡ q) × (region ≡ innermost_at n y)
  arrival_is y x q c = elim (cases_of (is_same region (innermost_at n y))) [
    | inl e ↦ elim (contains_cases (y, p) [] (x, q) (subst (λ (b : Bool). Contains {X = ℕ × Point} (if b then (y, p) ∷ [] else []) (x, q)) e c)) [
      | inl same ↦ (ap (λ (t : ℕ × Point). t.0) same, ap (λ (t : ℕ × Point). t.1) same, region_is region (innermost_at n y) e)
      | inr past ↦ absurd (contains_none (x, q) past)
    ]
    | inr e ↦ absurd (contains_none (x, q) (subst (λ (b : Bool). Contains {X = ℕ × Point} (if b then (y, p) ∷ [] else []) (x, q)) e c))
  ]

module _ (g : List (List ℕ)) (ends : EndsAtNodes g) (n : Nested) (nested : IsNested g 0 n) (blocks : List Block)
    (sources : (a x : ℕ) → HasEdge g a x → (b : Block) × Contains blocks b × (b.pc ≡ a))
    (loops : List CodeLoop) (same : map entered_of loops ≡ n.loops) (exits : (l : CodeLoop) → Contains loops l → ExitsAre g l) where
  begins_of : (l : CodeLoop) → Contains loops l → HasLoop g 0 l.entry
  begins_of l c =
      let entered : Contains n.loops (entered_of l) = subst (λ (es : List Entered). Contains es (entered_of l)) same (in_map entered_of loops l c) in
      (nested.nest.entries l.entry).0 (in_map (λ (e : Entered). e.entry) n.loops (entered_of l) entered)

  pub loop_of : (h : ℕ) → HasLoop g 0 h → (l : CodeLoop) × Contains loops l × (l.entry ≡ h)
  loop_of h begins =
      let e = from_map (λ (e : Entered). e.entry) n.loops h ((nested.nest.entries h).1 begins) in
      let l = from_map entered_of loops e.0 (subst (λ (es : List Entered). Contains es e.0) (sym same) e.1) in
      (l.0, l.1, ap (λ (e : Entered). e.entry) l.2 ∙ e.2)

  inner : (x : ℕ) → x < length g → IsInnermost g 0 x (innermost_at n x)
  inner x lt = nested.inner x lt

  block_comes : (a x : ℕ) (q : Point) → Contains (from_block g n a) (x, q) → ComesFrom g 0 x q
  block_comes a x q c =
      let f = from_flat (arrival n (innermost_at n a) (points.Block a)) (successors_of g a) (x, q) c in
      let w = arrival_is n (innermost_at n a) (points.Block a) f.0 x q f.2 in
      let edge : HasEdge g a x = subst (λ (y : ℕ). HasEdge g a y) w.0 f.1 in
      let region : innermost_at n a ≡ innermost_at n x = w.2 ∙ ap (innermost_at n) w.0 in
      subst (λ (p : Point). ComesFrom g 0 x p) w.1 (record {
        region = innermost_at n x;
        lies = inner x (ends a x edge);
        point = subst (IsInnermost g 0 a) region (inner a (edge_source g a x edge));
        leads = edge;
      })

  loop_comes : (l : CodeLoop) (x : ℕ) (q : Point) → Contains loops l → Contains (from_loop n l) (x, q) → ComesFrom g 0 x q
  loop_comes l x q known c =
      let f = from_flat (arrival n (parent_at n l.entry) (points.Loop l.entry)) l.exits (x, q) c in
      let w = arrival_is n (parent_at n l.entry) (points.Loop l.entry) f.0 x q f.2 in
      let exit : IsExit g 0 l.entry x = (exits l known x).0 (subst (λ (y : ℕ). Contains l.exits y) w.0 f.1) in
      let region : parent_at n l.entry ≡ innermost_at n x = w.2 ∙ ap (innermost_at n) w.0 in
      let begins = begins_of l known in
      subst (λ (p : Point). ComesFrom g 0 x p) w.1 (record {
        region = innermost_at n x;
        lies = inner x (ends exit.1.0 x exit.1.2);
        point = (begins, subst (IsParent g 0 l.entry) region (nested.parent l.entry (begins_at g 0 ends l.entry begins)));
        leads = exit;
      })

  pub comes : (x : ℕ) (q : Point) → Contains (arrivals g n blocks loops) (x, q) → ComesFrom g 0 x q
  comes x q c = elim (Contains-append_cases (flat_map (λ (b : Block). from_block g n b.pc) blocks) (flat_map (from_loop n) loops) (x, q) c) [
    | inl one ↦ let f = from_flat (λ (b : Block). from_block g n b.pc) blocks (x, q) one in block_comes f.0.pc x q f.2
    | inr other ↦ let f = from_flat (from_loop n) loops (x, q) other in loop_comes f.0 x q f.1 f.2
  ]

  arrives_block : (a x : ℕ) (r : Option ℕ) → IsInnermost g 0 x r → IsInnermost g 0 a r → HasEdge g a x → Contains (from_block g n a) (x, points.Block a)
  arrives_block a x r lies point edge =
      let at_x : r ≡ innermost_at n x = innermost_one g 0 x r (innermost_at n x) lies (inner x (ends a x edge)) in
      let at_a : r ≡ innermost_at n a = innermost_one g 0 a r (innermost_at n a) point (inner a (edge_source g a x edge)) in
      in_flat (arrival n (innermost_at n a) (points.Block a)) (successors_of g a) x (x, points.Block a) edge
      (arrival_has n (innermost_at n a) (points.Block a) x (sym at_a ∙ at_x))

  arrives_loop : (l : CodeLoop) (x : ℕ) (r : Option ℕ) → Contains loops l → IsInnermost g 0 x r → IsParent g 0 l.entry r → IsExit g 0 l.entry x → Contains (from_loop n l) (x, points.Loop l.entry)
  arrives_loop l x r known lies point exit =
      let at_x : r ≡ innermost_at n x = innermost_one g 0 x r (innermost_at n x) lies (inner x (ends exit.1.0 x exit.1.2)) in
      let at_l : r ≡ parent_at n l.entry = parent_one g 0 l.entry r (parent_at n l.entry) point (nested.parent l.entry (begins_at g 0 ends l.entry (begins_of l known))) in
      in_flat (arrival n (parent_at n l.entry) (points.Loop l.entry)) l.exits x (x, points.Loop l.entry) ((exits l known x).1 exit)
      (arrival_has n (parent_at n l.entry) (points.Loop l.entry) x (sym at_l ∙ at_x))

  at_block : (a x : ℕ) → Contains (from_block g n a) (x, points.Block a) → (b : Block) × Contains blocks b × (b.pc ≡ a) → Contains (arrivals g n blocks loops) (x, points.Block a)
  at_block a x c b =
      Contains-append_left (flat_map (λ (b : Block). from_block g n b.pc) blocks) (flat_map (from_loop n) loops) (x, points.Block a)
      (in_flat (λ (b : Block). from_block g n b.pc) blocks b.0 (x, points.Block a) b.1 (subst (λ (k : ℕ). Contains (from_block g n k) (x, points.Block a)) (sym b.2) c))

  pub arrives : (x : ℕ) (q : Point) → ComesFrom g 0 x q → Contains (arrivals g n blocks loops) (x, q)
  arrives x (points.Block a) c = at_block a x (arrives_block a x c.region c.lies c.point c.leads) (sources a x c.leads)
  arrives x (points.Loop h) c =
      let l = loop_of h c.point.0 in
      Contains-append_right (flat_map (λ (b : Block). from_block g n b.pc) blocks) (flat_map (from_loop n) loops) (x, points.Loop h)
      (in_flat (from_loop n) loops l.0 (x, points.Loop h) l.1
      (subst (λ (k : ℕ). Contains (from_loop n l.0) (x, points.Loop k)) l.2 (arrives_loop l.0 x c.region l.1 c.lies (subst (λ (k : ℕ). IsParent g 0 k c.region) (sym l.2) c.point.1) (subst (λ (k : ℕ). IsExit g 0 k x) (sym l.2) c.leads))))

  two_are : (x : ℕ) → AreTwo (arrivals g n blocks loops) x → IsJoin g 0 x
  two_are x t = record { one = t.one; other = t.other; apart = t.apart; from_one = comes x t.one t.from_one; from_other = comes x t.other t.from_other }

  join_is : (x : ℕ) → IsJoin g 0 x → AreTwo (arrivals g n blocks loops) x
  join_is x j = record { one = j.one; other = j.other; apart = j.apart; from_one = arrives x j.one j.from_one; from_other = arrives x j.other j.from_other }

  edge_end : (x : ℕ) (q : Point) → ComesFrom g 0 x q → x < length g
  edge_end x (points.Block a) c = ends a x c.leads
  edge_end x (points.Loop h) c = ends c.leads.1.0 x c.leads.1.2

  pub heads_are : 0 < length g → (x : ℕ) → ((x < length g) × ((x ≡ 0) ⊎ (IsEntry loops x ⊎ AreTwo (arrivals g n blocks loops) x))) ↔ IsHead g 0 x
  heads_are some x = (
    λ h. elim h.1 [
      | inl e ↦ inl e
      | inr (inl l) ↦ inr (inl (subst (HasLoop g 0) l.2 (begins_of l.0 l.1)))
      | inr (inr t) ↦ inr (inr (two_are x t))
    ],
    λ h. elim h [
      | inl e ↦ (subst (λ (y : ℕ). y < length g) (sym e) some, inl e)
      | inr (inl begins) ↦ (begins_at g 0 ends x begins, inr (inl (loop_of x begins)))
      | inr (inr j) ↦ (edge_end x j.one j.from_one, inr (inr (join_is x j)))
    ],
  )

  -- ---- where they lie

  pub entries_within : (l : CodeLoop) → Contains loops l → l.entry < length g
  entries_within l c = begins_at g 0 ends l.entry (begins_of l c)

  pub exits_within : (l : CodeLoop) → Contains loops l → (x : ℕ) → Contains l.exits x → x < length g
  exits_within l c x e = let exit = (exits l c x).0 e in ends exit.1.0 x exit.1.2

  pub came_within : (x : ℕ) (q : Point) → Contains (arrivals g n blocks loops) (x, q) → x < length g
  came_within x q c = edge_end x q (comes x q c)
