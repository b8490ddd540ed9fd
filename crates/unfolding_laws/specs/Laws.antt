-- What unfolding keeps (Albert, Arenas, Genaim and Puebla, Closed-form upper bounds in static cost analysis: unfolding keeps
-- the answers of a cost relation).
use Rattle.std.specs.Prelude.{◌≡◌, ◌↔◌, ℕ, ◌<◌, true, ℤ, List, length, slice_index, Some}
use Rattle.relations.specs.declared.direct.DirectNode.{DirectNode}
use Rattle.relations.specs.Relation.{Relation, sizes_of}
use Rattle.relations.specs.Scope.{IsRelation}
use Rattle.relation_runs.specs.Passing.{Passes, Spends}
use Rattle.relation_runs.specs.Nodes.{ways_in}
use Rattle.base_relations.specs.Limits.{has_base}
use Rattle.base_relations.specs.Direct.{BaseRelations, base_at, Succeeds}
use Rattle.unfolding_laws.specs.Bases.{base_ways}

-- a node that has a base relation passes there, at as many sizes as it has, what it passes in the relation
abbrev pub UnfoldingKeepsPasses : Type 0
UnfoldingKeepsPasses =
    (relation : Relation) (target : ℕ) (direct : BaseRelations) (n : ℕ) (base : DirectNode) (v : List ℤ) (c : ℕ)
    → IsRelation relation → Succeeds relation target direct → base_at direct.nodes n ≡ Some base → length v ≡ length base.lengths
    → Passes (ways_in relation) n v c ↔ Passes (base_ways direct.nodes) n v c

-- and spends what it spends there, inside replaced calls too
abbrev pub UnfoldingKeepsSpends : Type 0
UnfoldingKeepsSpends =
    (relation : Relation) (target : ℕ) (direct : BaseRelations) (n : ℕ) (base : DirectNode) (v : List ℤ) (c : ℕ)
    → IsRelation relation → Succeeds relation target direct → base_at direct.nodes n ≡ Some base → length v ≡ length base.lengths
    → Spends (ways_in relation) n v c ↔ Spends (base_ways direct.nodes) n v c

-- the covers and the target have base relations, with the sizes that they have in the relation
abbrev pub UnfoldingReachesAll : Type 0
UnfoldingReachesAll =
    (relation : Relation) (target : ℕ) (direct : BaseRelations) (n : ℕ) (s : Succeeds relation target direct) → n < length relation → has_base s.covers target n ≡ true
    → (base : DirectNode) × (base_at direct.nodes n ≡ Some base) × (length base.lengths ≡ slice_index (sizes_of relation) n)
