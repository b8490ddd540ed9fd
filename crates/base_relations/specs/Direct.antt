-- The base relations of a relation: those of its covers and of a target.
use Rattle.std.specs.Prelude.{◌≡◌, ◌↔◌, ℕ, ◌<◌, Bool, List, [], length, map, slice_get, slice_index_or, All, Contains, Option, Some, None, is_some, Result, Ok, Err}
use Rattle.rule_terms.specs.declared.item.Item.{Item}
use Rattle.relations.specs.declared.name.NodeName.{NodeName}
use Rattle.relations.specs.declared.node.Node.{Node}
use Rattle.relations.specs.declared.direct.Called.{Called}
use Rattle.relations.specs.declared.direct.DirectNode.{DirectNode}
use Rattle.relations.specs.Relation.{Relation, sizes_of}
use Rattle.graph_core.specs.Graphs.{HasEdge, IsRising}
use Rattle.graph_covers.specs.Covers.{AreCovers, AreRanks}
use Rattle.graph_covers.specs.NoCovers.{AvoidedBy}
use Rattle.graph_order.specs.CalleesFirst.{IsCalleeFirst}
use Rattle.base_relations.specs.declared.fault.UnfoldFault.{UnfoldFault}
use Rattle.base_relations.specs.declared.fault.UnfoldFault.TheVariants.{NoCover, TooManyRules, TooLongRule, TooManyFresh, TooManyRows, TooLarge, Memory}
use Rattle.base_relations.specs.Steps.{Step, Trace}
use Rattle.base_relations.specs.Unfolding.{node_ways, Calls, IsCallGraph, IsUnfolding, node_traces}
use Rattle.base_relations.specs.Limits.{has_base, bases_made}

-- for each node its base relation, or None where it has none; and the order in which they are worked through
pub record BaseRelations : Type 0 where
  pub nodes : List (Option DirectNode)
  pub order : List ℕ

abbrev pub base_at : List (Option DirectNode) → ℕ → Option DirectNode
base_at nodes n = slice_index_or nodes n None

-- ---- one node
-- each with the name that it has in the relation
abbrev pub AreNamed : Relation → List Called → Type 0
AreNamed relation called = All (λ (c : Called). slice_get (map (λ (node : Node). node.name) relation) c.node ≡ Some c.name) called

-- the nodes that rules call, by number, with their names; each is a node of the relation
pub record AreCalled (relation : Relation) (rules : List (List Item)) (called : List Called) : Type 0 where
  pub rising : IsRising (map (λ (c : Called). c.node) called)
  pub each : (b : ℕ) → Contains (map (λ (c : Called). c.node) called) b ↔ (Calls rules b × (b < length relation))
  pub names : AreNamed relation called

-- a node with these rules, and with the name and the sizes that it has in the relation
pub record IsBase (relation : Relation) (n : ℕ) (rules : List (List Item)) (base : DirectNode) : Type 0 where
  pub node : base.node ≡ n
  pub name : slice_get (map (λ (held : Node). held.name) relation) n ≡ Some base.name
  pub lengths : slice_get (map (λ (held : Node). held.lengths) relation) n ≡ Some base.lengths
  pub rules_are : base.rules ≡ rules
  pub called : AreCalled relation rules base.called

abbrev pub IsBaseAt : Relation → ℕ → Option (List (List Item)) → Option DirectNode → Type 0
IsBaseAt relation n None None = Unit {0}
IsBaseAt relation n None (Some base) = ⊥
IsBaseAt relation n (Some rules) None = ⊥
IsBaseAt relation n (Some rules) (Some base) = IsBase relation n rules base

-- ---- all nodes
-- the calls of rules, where there are rules
abbrev pub CallsOf : Option (List (List Item)) → ℕ → Type 0
CallsOf None b = ⊥
CallsOf (Some rules) b = Calls rules b

-- The graph of calls of the base relations.
pub record IsBaseGraph (bases : List (Option (List (List Item)))) (g : List (List ℕ)) : Type 0 where
  pub nodes : length g ≡ length bases
  pub edges : (a b : ℕ) → HasEdge g a b ↔ (CallsOf (slice_index_or bases a None) b × (b < length bases))

-- the base relations of the nodes below n
abbrev pub AreBasesTo : Relation → List (Option (List (List Item))) → List (Option DirectNode) → ℕ → Type 0
AreBasesTo relation bases nodes n = (length nodes ≡ n) × ((a : ℕ) → a < n → IsBaseAt relation a (slice_index_or bases a None) (base_at nodes a))

-- Each node with rules has its base relation. They stand in an order with callees first, among those that are ready the lowest.
pub record AreBases (relation : Relation) (bases : List (Option (List (List Item)))) (direct : BaseRelations) : Type 0 where
  pub each : AreBasesTo relation bases direct.nodes (length bases)
  pub order : (g : List (List ℕ)) × IsBaseGraph bases g × IsCalleeFirst g (map is_some bases) direct.order

-- ---- the answer
-- the graph of calls, the covers of its components, and what comes of steps by them; by ranks, replacing calls ends
pub record Unfolds (relation : Relation) (g : List (List ℕ)) (covers : List ℕ) (unfolded : List Step → List Trace) : Type 0 where
  pub graph : IsCallGraph (node_ways relation) g
  pub covers_are : AreCovers g covers
  pub ranks : List ℕ
  pub ranked : AreRanks g covers ranks
  pub unfolding_is : IsUnfolding (node_ways relation) covers unfolded

-- the rules of all base relations, or the first fault
abbrev pub all_made : Relation → List ℕ → (List Step → List Trace) → ℕ → Result (List (Option (List (List Item)))) UnfoldFault
all_made relation covers unfolded target =
    bases_made (has_base covers target) (node_traces unfolded (node_ways relation)) [] 0 (sizes_of relation)

pub record Succeeds (relation : Relation) (target : ℕ) (direct : BaseRelations) : Type 0 where
  pub g : List (List ℕ)
  pub covers : List ℕ
  pub unfolded : List Step → List Trace
  pub bases : List (Option (List (List Item)))
  pub unfolds : Unfolds relation g covers unfolded
  pub made : all_made relation covers unfolded target ≡ Ok bases
  pub direct_is : AreBases relation bases direct

pub record Fails (relation : Relation) (target : ℕ) (fault : UnfoldFault) : Type 0 where
  pub g : List (List ℕ)
  pub covers : List ℕ
  pub unfolded : List Step → List Trace
  pub unfolds : Unfolds relation g covers unfolded
  pub made : all_made relation covers unfolded target ≡ Err fault

-- no covers: the named node of a component, and the first of the shortest cycles that avoid it
pub record LacksCover (relation : Relation) (avoided : List ℕ) : Type 0 where
  pub g : List (List ℕ)
  pub graph : IsCallGraph (node_ways relation) g
  pub cycle : AvoidedBy g avoided

-- What a fault tells. Want of memory tells nothing.
abbrev pub Tells : Relation → ℕ → UnfoldFault → Type 0
Tells relation target (NoCover avoided) = LacksCover relation avoided
Tells relation target TooManyRules = Fails relation target TooManyRules
Tells relation target TooLongRule = Fails relation target TooLongRule
Tells relation target TooManyFresh = Fails relation target TooManyFresh
Tells relation target TooManyRows = Fails relation target TooManyRows
Tells relation target TooLarge = Fails relation target TooLarge
Tells relation target Memory = Unit {0}
