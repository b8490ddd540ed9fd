-- The graph of calls as it is made, and what is planned by it.
use Rattle.std.specs.Prelude.{◌≡◌, ◌↔◌, ◌⊎◌, ℕ, ◌<◌, List, length, Contains}
use Rattle.lin_rows.specs.Linear.{Linear}
use Rattle.rule_terms.specs.declared.item.Item.{Item}
use Rattle.rule_terms.specs.declared.item.Item.TheVariants.{Call}
use Rattle.relations.specs.Relation.{Relation}
use Rattle.graph_core.specs.Graphs.{HasEdge}
use Rattle.graph_covers.specs.Covers.{AreCovers, AreRanks}
use Rattle.base_relations.specs.declared.fault.UnfoldFault.{UnfoldFault}
use Rattle.base_relations.specs.declared.fault.UnfoldFault.TheVariants.{NoCover, TooManyRules, TooLongRule, TooManyFresh, TooManyRows, TooLarge, Memory}
use Rattle.base_relations.specs.declared.plan.Plan.{Plan}
use Rattle.base_relations.specs.Unfolding.{node_ways, IsCallGraph}
use Rattle.base_relations.specs.Direct.{LacksCover}
use Rattle.base_relations.specs.inside.Trails.{IsPlanned}

-- the item is a call of the node
abbrev pub IsCallOf : Item → ℕ → Type 0
IsCallOf item b = (args : List Linear) × (item ≡ Call b args)

-- a call of the node stands in the items
abbrev pub CallsIn : List Item → ℕ → Type 0
CallsIn items b = (args : List Linear) × Contains items (Call b args)

-- edges from a to those that it calls are added
abbrev pub Adds : List (List ℕ) → List (List ℕ) → ℕ → (ℕ → Type 0) → Type 0
Adds old new a IsCalled = (x y : ℕ) → HasEdge new x y ↔ (HasEdge old x y ⊎ ((x ≡ a) × (y < length old) × IsCalled y))

-- the edges from nodes below a
abbrev pub AreEdgesTo : (ℕ → ℕ → Type 0) → ℕ → List (List ℕ) → ℕ → Type 0
AreEdgesTo IsCalled count g a = (x y : ℕ) → HasEdge g x y ↔ ((x < a) × (y < count) × IsCalled x y)

pub record PlansFor (relation : Relation) (plan : Plan) : Type 0 where
  pub ways : plan.ways ≡ node_ways relation
  pub planned : IsPlanned plan
  pub graph : (g : List (List ℕ)) × IsCallGraph (node_ways relation) g × AreCovers g plan.covers.covers × AreRanks g plan.covers.covers plan.covers.ranks

-- no covers, or want of memory
abbrev pub TellsNoPlan : Relation → UnfoldFault → Type 0
TellsNoPlan relation (NoCover avoided) = LacksCover relation avoided
TellsNoPlan relation TooManyRules = ⊥
TellsNoPlan relation TooLongRule = ⊥
TellsNoPlan relation TooManyFresh = ⊥
TellsNoPlan relation TooManyRows = ⊥
TellsNoPlan relation TooLarge = ⊥
TellsNoPlan relation Memory = Unit {0}
