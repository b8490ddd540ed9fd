-- A node passes and spends in the base relations what it does in the relation.
use Rattle.std.proofs.Common.{◌≡◌, ℕ, zero, suc, ◌<◌, nat_eq, Bool, true, false, ◌||◌, ℤ, List, [], ◌∷◌, ◌++◌, length, Contains, slice_get, slice_index, Option, Some, refl, sym, ap, ◌∙◌, subst, arith}
use Rattle.std.proofs.lemmas.Option.{slice_get_within}
use Rattle.common_laws.proofs.Members.{in_flat, from_flat}
use Rattle.rule_terms.specs.declared.item.Item.{Item}
use Rattle.relations.specs.declared.direct.DirectNode.{DirectNode}
use Rattle.relations.specs.Relation.{Relation, sizes_of}
use Rattle.relations.specs.Scope.{IsScoped, IsRelation}
use Rattle.relation_runs.specs.Passing.{Ways, PassesBelow, SpendsBelow, Passes, Spends}
use Rattle.relation_runs.specs.Nodes.{ways_in}
use Rattle.base_relations.specs.Steps.{Trace, steps_of}
use Rattle.base_relations.specs.Unfolding.{node_ways, ways_at, is_cover}
use Rattle.base_relations.specs.Making.{items_made}
use Rattle.base_relations.specs.Direct.{BaseRelations, base_at, Succeeds}
use Rattle.unfolding_laws.specs.Bases as bases
use Rattle.unfolding_laws.specs.inside.Runs.{Mode, passing, spending, WayRun, StepsRun, ItemsRun}
use Rattle.unfolding_laws.specs.inside.Scopes.{AreScopedSteps}
use Rattle.unfolding_laws.proofs.Going.{IsMode, is_passing, is_spending, items_pass, pass_items, items_spend, spend_items, chosen, unchosen}
use Rattle.unfolding_laws.proofs.Members.{size_at, only_way_scoped}
use Rattle.unfolding_laws.proofs.Unfolded.{Opens, Closes, AreWays, way_kept, restored}
use Rattle.unfolding_laws.proofs.Made.{Sized, items_run}
use Rattle.unfolding_laws.proofs.Traces.{way_steps, steps_way, whole, otherwise_run}
use Rattle.unfolding_laws.proofs.Given.{are_ways, falls, passing_way, spending_way, opens_passing, opens_spending, closes_passing, closes_spending, way_passed, way_spent}
use Rattle.unfolding_laws.proofs.BaseRules.{has_rules, reached}

size_there : (nodes : List ℕ) (n k : ℕ) → n < length nodes → slice_index nodes n ≡ k → slice_get nodes n ≡ Some k
size_there [] n k low e = absurd (omega arith)
size_there (x ∷ nodes) zero k low e = ap Some e
size_there (x ∷ nodes) (suc n) k low e = size_there nodes n k (omega arith) e

rules_at : (o : Option DirectNode) (base : DirectNode) → o ≡ Some base → bases.base_rules o ≡ base.rules
rules_at o base e = ap bases.base_rules e

cover_or : (a b : Bool) → a ≡ true → (a || b) ≡ true
cover_or true b e = refl
cover_or false b e = absurd (let f : ⊥ = cc in f)

module _ (relation : Relation) (target : ℕ) (direct : BaseRelations) (is : IsRelation relation) (s : Succeeds relation target direct) where
  abbrev W : Ways
  W = ways_in relation

  abbrev B : Ways
  B = bases.base_ways direct.nodes

  abbrev Nodes : List ℕ
  Nodes = sizes_of relation

  abbrev IsScopedIn : ℕ → List Item → Type 0
  IsScopedIn k way = IsScoped Nodes k [] way

  abbrev IsMadeAt : ℕ → Trace → List Item → Type 0
  IsMadeAt k t items = items_made k t ≡ Some items

  all_ways : AreWays Nodes (node_ways relation) s.covers
  all_ways = are_ways relation is s.g s.covers s.unfolds.ranks s.unfolds.graph s.unfolds.covers_are s.unfolds.ranked

  -- a node with a base relation, at as many sizes as it has
  abbrev pub IsBased : ℕ → List ℤ → Type 0
  IsBased n v = (base : DirectNode) × (base_at direct.nodes n ≡ Some base) × (length v ≡ length base.lengths)

  node_size : (n : ℕ) (v : List ℤ) → IsBased n v → slice_get Nodes n ≡ Some (length v)
  node_size n v b = size_there Nodes n (length v) (has_rules relation target direct s n b.0 b.1).low ((has_rules relation target direct s n b.0 b.1).sizes ∙ sym b.2)

  cover_based : (n : ℕ) (v : List ℤ) → is_cover s.covers n ≡ true → slice_get Nodes n ≡ Some (length v) → IsBased n v
  cover_based n v c e =
      let low = slice_get_within Nodes n (length v) e in
      let b = reached relation target direct s n low (cover_or (is_cover s.covers n) (nat_eq target n) c) in
      (b.0, b.1, sym (size_at Nodes n (length v) e) ∙ (has_rules relation target direct s n b.0 b.1).sizes)

  -- what a mode says of a cover, the other does
  abbrev CoversMore : Mode → Mode → Type 0
  CoversMore m o =
      ((c : ℕ) → m.stop c → o.stop c) × ((n : ℕ) (v : List ℤ) (c : ℕ) → IsBased n v → m.pass n v c → o.pass n v c) × ((n : ℕ) (v : List ℤ) (c : ℕ) → IsBased n v → m.spend n v c → o.spend n v c)

  trace_run : (m o : Mode) → CoversMore m o → (n : ℕ) (way : List Item) (t : Trace) (v : List ℤ) (c : ℕ) → slice_get Nodes n ≡ Some (length v) → Contains (ways_at (node_ways relation) n) way → Contains (s.unfolded (steps_of way)) t
      → AreScopedSteps Nodes (Sized (length v)) [] t × (StepsRun m v [] t c → StepsRun o v [] t c)
  trace_run m o more n way t v c e w h =
      let scoped = all_ways.scoped n way w in
      let steps = only_way_scoped Nodes (Sized (length v)) [] way (subst (λ k. IsScopedIn k way) (size_at Nodes n (length v) e) scoped) in
      let r = whole Nodes (node_ways relation) s.covers s.unfolded s.unfolds.unfolding_is all_ways t (steps_of way) h (Sized (length v)) [] steps in
      (r.0, λ p. otherwise_run Nodes s.covers m o more.0 (λ node x k cover size q. more.1 node x k (cover_based node x cover size) q) (λ node x k cover size q. more.2 node x k (cover_based node x cover size) q) t (Sized (length v)) [] v [] c r.0 r.1 p)

  -- a way in the relation, and a rule of the base relation
  abbrev SomeRule : Mode → ℕ → List ℤ → ℕ → Type 0
  SomeRule o n v c = (items : List Item) × (tail : List ℤ) × Contains (B n) items × ItemsRun o (v ++ tail) items c

  to_base : (m o : Mode) → IsMode m → Opens m Nodes (node_ways relation) → CoversMore m o → (n : ℕ) (v : List ℤ) (c : ℕ) (b : IsBased n v) (way : List Item) → Contains (ways_at (node_ways relation) n) way → WayRun m v way c → SomeRule o n v c
  to_base m o mode opens more n v c b way w p =
      let kept = way_kept Nodes (node_ways relation) s.covers s.unfolded s.unfolds.unfolding_is all_ways m mode opens
      (falls relation is s.g s.covers s.unfolds.ranks s.unfolds.graph s.unfolds.covers_are s.unfolds.ranked) n way w v [] c (way_steps m v [] way c p) in
      let there = trace_run m o more n way kept.0 v c (node_size n v b) w kept.1 in
      let run = chosen o v v [] kept.0 c (there.1 kept.2) in
      let rule = (has_rules relation target direct s n b.0 b.1).rules.of_trace kept.0 (in_flat (λ (x : List Item). s.unfolded (steps_of x)) (ways_at (node_ways relation) n) way kept.0 w kept.1) in (
        rule.0,
        run.0,
        subst (λ ws. Contains ws rule.0) (sym (rules_at (base_at direct.nodes n) b.0 b.1)) rule.1,
        (items_run Nodes o v run.0 kept.0 rule.0 there.0 (subst (λ k. IsMadeAt k kept.0 rule.0) (sym b.2) rule.2) c).0 run.1,
      )

  abbrev SomeWay : Mode → ℕ → List ℤ → ℕ → Type 0
  SomeWay m n v c = (way : List Item) × Contains (ways_at (node_ways relation) n) way × WayRun m v way c

  from_base : (m o : Mode) → IsMode m → Closes m Nodes (node_ways relation) → CoversMore o m → (n : ℕ) (v tail : List ℤ) (c : ℕ) (b : IsBased n v) (items : List Item) → Contains (B n) items → ItemsRun o (v ++ tail) items c → SomeWay m n v c
  from_base m o mode closes more n v tail c b items w p =
      let rule = (has_rules relation target direct s n b.0 b.1).rules.of_rule items (subst (λ ws. Contains ws items) (rules_at (base_at direct.nodes n) b.0 b.1) w) in
      let from = from_flat (λ (x : List Item). s.unfolded (steps_of x)) (ways_at (node_ways relation) n) rule.0 rule.1 in
      let there = trace_run o m more n from.0 rule.0 v c (node_size n v b) from.1 from.2 in
      let run = unchosen o (v ++ tail) (length v) v [] rule.0 c ((items_run Nodes o v tail rule.0 items there.0 (subst (λ k. IsMadeAt k rule.0 items) (sym b.2) rule.2) c).1 p) in
      let scoped = only_way_scoped Nodes (Sized (length v)) [] from.0 (subst (λ k. IsScopedIn k from.0) (size_at Nodes n (length v) (node_size n v b)) (all_ways.scoped n from.0 from.1)) in
      let back = restored Nodes (node_ways relation) s.covers s.unfolded s.unfolds.unfolding_is all_ways m mode closes rule.0 (steps_of from.0) from.2 (Sized (length v)) [] v [] c scoped (there.1 run) in
      (from.0, from.1, steps_way m v [] from.0 c back)

  -- ---- passing
  pub passes_there : (h n : ℕ) (v : List ℤ) (c : ℕ) → IsBased n v → PassesBelow W h n v c → PassesBelow B h n v c
  passes_there zero n v c b p = p
  passes_there (suc h) n v c b p =
      let w = passing_way relation is h n v c (node_size n v b) p in
      let r = to_base (passing (PassesBelow W h)) (passing (PassesBelow B h)) (is_passing (PassesBelow W h)) (opens_passing relation is h) (λ k e. e, λ x y k d q. passes_there h x y k d q, λ x y k d q. q) n v c b w.0 w.1 w.2 in
      (r.0, r.1, r.2, items_pass (PassesBelow B h) (v ++ r.1) r.0 c r.3)

  pub passes_back : (h n : ℕ) (v : List ℤ) (c : ℕ) → IsBased n v → PassesBelow B h n v c → Passes W n v c
  passes_back zero n v c b p = absurd p
  passes_back (suc h) n v c b p =
      let r = from_base (passing (Passes W)) (passing (PassesBelow B h)) (is_passing (Passes W)) (closes_passing relation is) (λ k e. e, λ x y k d q. passes_back h x y k d q, λ x y k d q. q) n v p.1 c b p.0 p.2 (pass_items (PassesBelow B h) (v ++ p.1) p.0 c p.3) in
      way_passed relation is n v c r.0 (node_size n v b) r.1 r.2

  -- ---- spending
  pub spends_there : (h n : ℕ) (v : List ℤ) (c : ℕ) → IsBased n v → SpendsBelow W h n v c → SpendsBelow B h n v c
  spends_there zero n v c b p = p
  spends_there (suc h) n v c b p =
      let w = spending_way relation is h n v c (node_size n v b) p in
      let r = to_base (spending (PassesBelow W h) (SpendsBelow W h)) (spending (PassesBelow B h) (SpendsBelow B h)) (is_spending (PassesBelow W h) (SpendsBelow W h)) (opens_spending relation is h)
      (λ k e. e, λ x y k d q. passes_there h x y k d q, λ x y k d q. spends_there h x y k d q) n v c b w.0 w.1 w.2 in
      (r.0, r.1, r.2, items_spend (PassesBelow B h) (SpendsBelow B h) (v ++ r.1) r.0 c r.3)

  pub spends_back : (h n : ℕ) (v : List ℤ) (c : ℕ) → IsBased n v → SpendsBelow B h n v c → Spends W n v c
  spends_back zero n v c b p = absurd p
  spends_back (suc h) n v c b p =
      let r = from_base (spending (Passes W) (Spends W)) (spending (PassesBelow B h) (SpendsBelow B h)) (is_spending (Passes W) (Spends W)) (closes_spending relation is)
      (λ k e. e, λ x y k d q. passes_back h x y k d q, λ x y k d q. spends_back h x y k d q) n v p.1 c b p.0 p.2 (spend_items (PassesBelow B h) (SpendsBelow B h) (v ++ p.1) p.0 c p.3) in
      way_spent relation is n v c r.0 (node_size n v b) r.1 r.2
