-- The relation that is unfolded: its ways, by its definitions and by those of unfolding; and runs of its ways.
use Rattle.std.proofs.Common.{◌≡◌, ◌≢◌, inl, inr, ℕ, zero, suc, ◌+◌, ◌<◌, false, ℤ, List, [], ◌∷◌, ◌++◌, length, Contains, slice_get, slice_index, Some, refl, sym, subst, arith}
use Rattle.std.proofs.lemmas.Bool.{eq-eqb}
use Rattle.common_laws.proofs.Members.{contains_none, from_flat}
use Rattle.lin_rows.specs.Transitions.{next_wholes}
use Rattle.rule_terms.specs.declared.item.Item.{Item}
use Rattle.rule_terms.specs.declared.item.Item.TheVariants.{Assume, Spend, Fresh, Call}
use Rattle.rule_terms.specs.declared.rule.Rule.{Rule}
use Rattle.rule_terms.specs.Terms.{term_of}
use Rattle.rule_terms.specs.Paths.{paths_of}
use Rattle.relations.specs.Relation.{Relation, sizes_of}
use Rattle.relations.specs.Scope.{IsScoped, AreScopedNodes, IsRelation}
use Rattle.relation_runs.specs.Passing.{Ways, ItemsPass, ItemsSpend, PassesBelow, SpendsBelow, Passes, Spends}
use Rattle.relation_runs.specs.Nodes.{ways_in}
use Rattle.relation_runs.proofs.Items.{pass_more, spend_more}
use Rattle.relation_runs.proofs.Depths.{passes_up, spends_up}
use Rattle.relation_runs.proofs.Nodes.{rule_scoped}
use Rattle.relation_runs.proofs.Scoped.{way_scoped}
use Rattle.relation_runs.proofs.Setting.{way_flat, flat_way, spent_flat, flat_spent}
use Rattle.graph_core.specs.Graphs.{HasEdge}
use Rattle.graph_core.specs.Paths.{Leads}
use Rattle.graph_covers.specs.Covers.{AreCovers, AreRanks}
use Rattle.base_relations.specs.Unfolding.{node_ways, ways_at, Calls, IsCallGraph, is_cover}
use Rattle.base_relations.proofs.Calling.{ways_held}
use Rattle.unfolding_laws.specs.inside.Runs.{passing, spending, WayRun}
use Rattle.unfolding_laws.proofs.Going.{way_passes, passes_way, way_spends, spends_way}
use Rattle.unfolding_laws.proofs.Members.{size_at}
use Rattle.unfolding_laws.proofs.Unfolded.{Opens, Closes, AreWays}

-- ---- ways
pub same_ways : (relation : Relation) (n : ℕ) → ways_at (node_ways relation) n ≡ ways_in relation n
same_ways [] n = refl
same_ways (node ∷ relation) zero = refl
same_ways (node ∷ relation) (suc n) = same_ways relation n

ways_scoped : (nodes : List ℕ) (relation : Relation) (n : ℕ) (way : List Item) → AreScopedNodes nodes relation → Contains (ways_at (node_ways relation) n) way → IsScoped nodes (slice_index (sizes_of relation) n) [] way
ways_scoped nodes [] n way s h = absurd (contains_none way h)
ways_scoped nodes (node ∷ relation) zero way s h =
    let r = from_flat (λ (rule : Rule). paths_of (term_of rule)) node.rules way h in
    way_scoped nodes (length node.lengths) (paths_of (term_of r.0)) way (rule_scoped nodes (length node.lengths) node.rules r.0 s.1 r.1) r.2
ways_scoped nodes (node ∷ relation) (suc n) way s h = ways_scoped nodes relation n way s.2 h

differs : (covers : List ℕ) (n : ℕ) → is_cover covers n ≡ false → n ≢ slice_index covers n
differs covers n h e = absurd (let t = eq-eqb (slice_index covers n) n (sym e) in let f : ⊥ = cc in f)

first_edge : (g : List (List ℕ)) (a b : ℕ) (rest : List ℕ) → Leads g a rest b → a ≢ b → (c : ℕ) × HasEdge g a c
first_edge g a b [] l ne = absurd (ne l)
first_edge g a b (c ∷ rest) l ne = (c, l.0)

module _ (relation : Relation) (is : IsRelation relation) (g : List (List ℕ)) (covers ranks : List ℕ) (graph : IsCallGraph (node_ways relation) g) (cover : AreCovers g covers) (ranked : AreRanks g covers ranks) where
  pub are_ways : AreWays (sizes_of relation) (node_ways relation) covers
  are_ways = record {
    scoped = λ n way h. ways_scoped (sizes_of relation) relation n way is.scoped h;
    filled = λ a b called s.
        let low = ways_held relation (node_ways relation) refl is a b called in
        let same = graph.nodes in
        let named = cover.covers b (omega arith) in
        let path = named.named.together.0 in
        let edge = first_edge g b (slice_index covers b) path.0 path.1.leads (differs covers b s) in
        let call = (graph.edges b edge.0).0 edge.1 in
        (call.0, call.2);
  }

  module _ (P : ℕ → Type 0) (step : (a : ℕ) → ((b : ℕ) → Calls (ways_at (node_ways relation) a) b → is_cover covers b ≡ false → P b) → P a) where
    by_rank : (h a : ℕ) → slice_index ranks a < h → P a
    by_rank zero a low = absurd (omega arith)
    by_rank (suc h) a low =
        step a (λ b called s. by_rank h b (let down = ranked.down a b ((graph.edges a b).1 called) (differs covers b s) in omega arith))

    -- by induction along replaced calls
    pub falls : (a : ℕ) → P a
    falls a = by_rank (suc (slice_index ranks a)) a (omega arith)

-- ---- depths of all calls of items
pub pass_depth : (ways : Ways) (zs : List ℤ) (items : List Item) (c : ℕ) → ItemsPass (Passes ways) zs items c → (h : ℕ) × ItemsPass (PassesBelow ways h) zs items c
pass_depth ways zs [] c p = (0, p)
pass_depth ways zs (Assume row ∷ rest) c p = let r = pass_depth ways zs rest c p.1 in (r.0, (p.0, r.1))
pass_depth ways zs (Spend n ∷ rest) c p = let r = pass_depth ways zs rest p.0 p.2 in (r.0, (p.0, p.1, r.1))
pass_depth ways zs (Fresh v ∷ rest) c p = pass_depth ways zs rest c p
pass_depth ways zs (Call node args ∷ rest) c p =
    let r = pass_depth ways zs rest p.1 p.4 in
    let h : ℕ = p.3.0 + r.0 in
    (h, (p.0, p.1, p.2, passes_up ways p.3.0 h (omega arith) node (next_wholes args zs) p.0 p.3.1, pass_more (PassesBelow ways r.0) (PassesBelow ways h) (passes_up ways r.0 h (omega arith)) zs rest p.1 r.1))

pub spend_depth : (ways : Ways) (zs : List ℤ) (items : List Item) (c : ℕ) → ItemsSpend (Passes ways) (Spends ways) zs items c → (h : ℕ) × ItemsSpend (PassesBelow ways h) (SpendsBelow ways h) zs items c
spend_depth ways zs [] c p = (0, p)
spend_depth ways zs (Assume row ∷ rest) c (inl e) = (0, inl e)
spend_depth ways zs (Assume row ∷ rest) c (inr p) = let r = spend_depth ways zs rest c p.1 in (r.0, inr (p.0, r.1))
spend_depth ways zs (Spend n ∷ rest) c (inl e) = (0, inl e)
spend_depth ways zs (Spend n ∷ rest) c (inr p) = let r = spend_depth ways zs rest p.0 p.2 in (r.0, inr (p.0, p.1, r.1))
spend_depth ways zs (Fresh v ∷ rest) c p = spend_depth ways zs rest c p
spend_depth ways zs (Call node args ∷ rest) c (inl e) = (0, inl e)
spend_depth ways zs (Call node args ∷ rest) c (inr (inl s)) = (s.0, inr (inl s.1))
spend_depth ways zs (Call node args ∷ rest) c (inr (inr p)) =
    let r = spend_depth ways zs rest p.1 p.4 in
    let h : ℕ = p.3.0 + r.0 in (
      h,
      inr (inr (
        p.0,
        p.1,
        p.2,
        passes_up ways p.3.0 h (omega arith) node (next_wholes args zs) p.0 p.3.1,
        spend_more (PassesBelow ways r.0) (PassesBelow ways h) (SpendsBelow ways r.0) (SpendsBelow ways h) (passes_up ways r.0 h (omega arith)) (spends_up ways r.0 h (omega arith)) zs rest p.1 r.1,
      )),
    )

-- ---- modes of the relation
module _ (relation : Relation) (is : IsRelation relation) where
  way_of : (n : ℕ) (way : List Item) → Contains (ways_in relation n) way → Contains (ways_at (node_ways relation) n) way
  way_of n way h = subst (λ (ws : List (List Item)). Contains ws way) (sym (same_ways relation n)) h

  in_ways : (n : ℕ) (way : List Item) → Contains (ways_at (node_ways relation) n) way → Contains (ways_in relation n) way
  in_ways n way h = subst (λ (ws : List (List Item)). Contains ws way) (same_ways relation n) h

  sized_way : (n : ℕ) (v : List ℤ) (way : List Item) → slice_get (sizes_of relation) n ≡ Some (length v) → Contains (ways_at (node_ways relation) n) way → IsScoped (sizes_of relation) (length v) [] way
  sized_way n v way e h = subst (λ k. IsScoped (sizes_of relation) k [] way) (size_at (sizes_of relation) n (length v) e) (ways_scoped (sizes_of relation) relation n way is.scoped h)

  -- a way that passes, where it passes at a depth
  pub passing_way : (h n : ℕ) (v : List ℤ) (c : ℕ) → slice_get (sizes_of relation) n ≡ Some (length v) → PassesBelow (ways_in relation) (suc h) n v c
      → (way : List Item) × Contains (ways_at (node_ways relation) n) way × WayRun (passing (PassesBelow (ways_in relation) h)) v way c
  passing_way h n v c e p =
      let w = way_of n p.0 p.2 in
      (p.0, w, passes_way (PassesBelow (ways_in relation) h) v p.0 c (flat_way (PassesBelow (ways_in relation) h) (sizes_of relation) v p.1 p.0 c (sized_way n v p.0 e w) p.3))

  pub spending_way : (h n : ℕ) (v : List ℤ) (c : ℕ) → slice_get (sizes_of relation) n ≡ Some (length v) → SpendsBelow (ways_in relation) (suc h) n v c
      → (way : List Item) × Contains (ways_at (node_ways relation) n) way × WayRun (spending (PassesBelow (ways_in relation) h) (SpendsBelow (ways_in relation) h)) v way c
  spending_way h n v c e p =
      let w = way_of n p.0 p.2 in (
        p.0,
        w,
        spends_way (PassesBelow (ways_in relation) h) (SpendsBelow (ways_in relation) h) v p.0 c
            (flat_spent (PassesBelow (ways_in relation) h) (SpendsBelow (ways_in relation) h) (sizes_of relation) v p.1 p.0 c (sized_way n v p.0 e w) p.3),
      )

  open_pass : (h n : ℕ) (v : List ℤ) (c : ℕ) → slice_get (sizes_of relation) n ≡ Some (length v) → PassesBelow (ways_in relation) h n v c
      → (way : List Item) × Contains (ways_at (node_ways relation) n) way × WayRun (passing (PassesBelow (ways_in relation) h)) v way c
  open_pass zero n v c e p = absurd p
  open_pass (suc h) n v c e p =
      passing_way (suc h) n v c e (p.0, p.1, p.2, pass_more (PassesBelow (ways_in relation) h) (PassesBelow (ways_in relation) (suc h)) (passes_up (ways_in relation) h (suc h) (omega arith)) (v ++ p.1) p.0 c p.3)

  open_spend : (h n : ℕ) (v : List ℤ) (c : ℕ) → slice_get (sizes_of relation) n ≡ Some (length v) → SpendsBelow (ways_in relation) h n v c
      → (way : List Item) × Contains (ways_at (node_ways relation) n) way × WayRun (spending (PassesBelow (ways_in relation) h) (SpendsBelow (ways_in relation) h)) v way c
  open_spend zero n v c e p = absurd p
  open_spend (suc h) n v c e p =
      spending_way (suc h) n v c e (
        p.0,
        p.1,
        p.2,
        spend_more (PassesBelow (ways_in relation) h) (PassesBelow (ways_in relation) (suc h)) (SpendsBelow (ways_in relation) h) (SpendsBelow (ways_in relation) (suc h)) (passes_up (ways_in relation) h (suc h) (omega arith))
            (spends_up (ways_in relation) h (suc h) (omega arith)) (v ++ p.1) p.0 c p.3,
      )

  pub opens_passing : (h : ℕ) → Opens (passing (PassesBelow (ways_in relation) h)) (sizes_of relation) (node_ways relation)
  opens_passing h = record { passes = λ n v c e p. open_pass h n v c e p; spends = λ n v c e p. absurd p }

  pub opens_spending : (h : ℕ) → Opens (spending (PassesBelow (ways_in relation) h) (SpendsBelow (ways_in relation) h)) (sizes_of relation) (node_ways relation)
  opens_spending h = record { passes = λ n v c e p. open_pass h n v c e p; spends = λ n v c e p. open_spend h n v c e p }

  -- and back
  pub way_passed : (n : ℕ) (v : List ℤ) (c : ℕ) (way : List Item) → slice_get (sizes_of relation) n ≡ Some (length v) → Contains (ways_at (node_ways relation) n) way → WayRun (passing (Passes (ways_in relation))) v way c → Passes (ways_in relation) n v c
  way_passed n v c way e w p =
      let f = way_flat (Passes (ways_in relation)) (sizes_of relation) v way c (sized_way n v way e w) (way_passes (Passes (ways_in relation)) v way c p) in
      let d = pass_depth (ways_in relation) (v ++ f.0) way c f.1 in
      (suc d.0, (way, f.0, in_ways n way w, d.1))

  pub way_spent : (n : ℕ) (v : List ℤ) (c : ℕ) (way : List Item) → slice_get (sizes_of relation) n ≡ Some (length v) → Contains (ways_at (node_ways relation) n) way
      → WayRun (spending (Passes (ways_in relation)) (Spends (ways_in relation))) v way c → Spends (ways_in relation) n v c
  way_spent n v c way e w p =
      let f = spent_flat (Passes (ways_in relation)) (Spends (ways_in relation)) (sizes_of relation) v way c (sized_way n v way e w) (way_spends (Passes (ways_in relation)) (Spends (ways_in relation)) v way c p) in
      let d = spend_depth (ways_in relation) (v ++ f.0) way c f.1 in
      (suc d.0, (way, f.0, in_ways n way w, d.1))

  pub closes_passing : Closes (passing (Passes (ways_in relation))) (sizes_of relation) (node_ways relation)
  closes_passing = record { passes = way_passed; spends = λ s n v c way e w p. absurd s }

  pub closes_spending : Closes (spending (Passes (ways_in relation)) (Spends (ways_in relation))) (sizes_of relation) (node_ways relation)
  closes_spending = record { passes = way_passed; spends = λ s n v c way e w p. way_spent n v c way e w p }
