-- The nodes of a relation, by their rules as terms.
use Rattle.std.proofs.Common.{◌≡◌, inl, inr, ℕ, zero, suc, ℤ, List, [], ◌∷◌, ◌++◌, length, Contains, slice_get, Some, None, refl, sym, ap, ◌∙◌, subst}
use Rattle.common_laws.proofs.Members.{contains_cases, contains_none, in_flat, from_flat}
use Rattle.rule_terms.specs.declared.item.Item.{Item}
use Rattle.rule_terms.specs.declared.rule.Rule.{Rule}
use Rattle.rule_terms.specs.Terms.{Term, term_of}
use Rattle.rule_terms.specs.Paths.{paths_of}
use Rattle.relations.specs.declared.node.Node.{Node}
use Rattle.relations.specs.Relation.{Relation, sizes_of, ways_of}
use Rattle.relations.specs.Scope.{AreScoped, AreScopedRules, AreScopedNodes, IsRelation}
use Rattle.relation_runs.specs.Passing.{PassesBelow, SpendsBelow, ItemsPass, ItemsSpend}
use Rattle.relation_runs.specs.Trees.{TermPasses, TermSpends}
use Rattle.relation_runs.specs.Nodes.{ways_in}
use Rattle.relation_runs.proofs.Scoped.{term_flat, flat_term, spent_term_flat, flat_spent_term}

pub ways_at : (relation : Relation) (n : ℕ) (node : Node) → slice_get relation n ≡ Some node → ways_in relation n ≡ ways_of node.rules
ways_at [] n node e = absurd (let f : ⊥ = cc in f)
ways_at (x ∷ relation) zero node e = let same : x ≡ node = cc in ap (λ (y : Node). ways_of y.rules) same
ways_at (x ∷ relation) (suc n) node e = ways_at relation n node e

pub node_scoped : (nodes : List ℕ) (relation : Relation) (n : ℕ) (node : Node) → slice_get relation n ≡ Some node → AreScopedNodes nodes relation → AreScopedRules nodes (length node.lengths) node.rules
node_scoped nodes [] n node e s = absurd (let f : ⊥ = cc in f)
node_scoped nodes (x ∷ relation) zero node e s = let same : x ≡ node = cc in subst (λ (y : Node). AreScopedRules nodes (length y.lengths) y.rules) same s.1
node_scoped nodes (x ∷ relation) (suc n) node e s = node_scoped nodes relation n node e s.2

pub rule_scoped : (nodes : List ℕ) (sizes : ℕ) (rules : List Rule) (rule : Rule) → AreScopedRules nodes sizes rules → Contains rules rule → AreScoped nodes sizes (paths_of (term_of rule))
rule_scoped nodes sizes [] rule s m = absurd (contains_none rule m)
rule_scoped nodes sizes (r ∷ rules) rule s m = elim (contains_cases r rules rule m) [
  | inl e ↦ subst (λ (x : Rule). AreScoped nodes sizes (paths_of (term_of x))) e s.0
  | inr t ↦ rule_scoped nodes sizes rules rule s.1 t
]

module _ (relation : Relation) (h n : ℕ) (node : Node) (v : List ℤ) (c : ℕ) (is : IsRelation relation) (at : slice_get relation n ≡ Some node) (len : length v ≡ length node.lengths) where
  scoped_at : (rule : Rule) → Contains node.rules rule → AreScoped (sizes_of relation) (length v) (paths_of (term_of rule))
  scoped_at rule m =
      subst (λ k. AreScoped (sizes_of relation) k (paths_of (term_of rule))) (sym len)
      (rule_scoped (sizes_of relation) (length node.lengths) node.rules rule (node_scoped (sizes_of relation) relation n node at is.scoped) m)

  -- a way of the node is one of a rule
  way_of_rule : (way : List Item) → Contains (ways_in relation n) way → (rule : Rule) × Contains node.rules rule × Contains (paths_of (term_of rule)) way
  way_of_rule way m =
      from_flat (λ (rule : Rule). paths_of (term_of rule)) node.rules way (subst (λ ws. Contains ws way) (ways_at relation n node at) m)

  rule_way : (rule : Rule) (way : List Item) → Contains node.rules rule → Contains (paths_of (term_of rule)) way → Contains (ways_in relation n) way
  rule_way rule way m t =
      subst (λ ws. Contains ws way) (sym (ways_at relation n node at)) (in_flat (λ (r : Rule). paths_of (term_of r)) node.rules rule way m t)

  pub node_passes : PassesBelow (ways_in relation) (suc h) n v c → (rule : Rule) × Contains node.rules rule × TermPasses (PassesBelow (ways_in relation) h) v (term_of rule) c
  node_passes p =
      let r = way_of_rule p.0 p.2 in
      (r.0, r.1, flat_term (PassesBelow (ways_in relation) h) (sizes_of relation) v (term_of r.0) c (scoped_at r.0 r.1) (p.0, p.1, r.2, p.3))

  pub passes_node : ((rule : Rule) × Contains node.rules rule × TermPasses (PassesBelow (ways_in relation) h) v (term_of rule) c) → PassesBelow (ways_in relation) (suc h) n v c
  passes_node p =
      let f = term_flat (PassesBelow (ways_in relation) h) (sizes_of relation) v (term_of p.0) c (scoped_at p.0 p.1) p.2 in
      (f.0, f.1, rule_way p.0 f.0 p.1 f.2, f.3)

  pub node_spends : SpendsBelow (ways_in relation) (suc h) n v c → (rule : Rule) × Contains node.rules rule × TermSpends (PassesBelow (ways_in relation) h) (SpendsBelow (ways_in relation) h) v (term_of rule) c
  node_spends p =
      let r = way_of_rule p.0 p.2 in
      (r.0, r.1, flat_spent_term (PassesBelow (ways_in relation) h) (SpendsBelow (ways_in relation) h) (sizes_of relation) v (term_of r.0) c (scoped_at r.0 r.1) (p.0, p.1, r.2, p.3))

  pub spends_node : ((rule : Rule) × Contains node.rules rule × TermSpends (PassesBelow (ways_in relation) h) (SpendsBelow (ways_in relation) h) v (term_of rule) c) → SpendsBelow (ways_in relation) (suc h) n v c
  spends_node p =
      let f = spent_term_flat (PassesBelow (ways_in relation) h) (SpendsBelow (ways_in relation) h) (sizes_of relation) v (term_of p.0) c (scoped_at p.0 p.1) p.2 in
      (f.0, f.1, rule_way p.0 f.0 p.1 f.2, f.3)
