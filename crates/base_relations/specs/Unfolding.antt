-- Unfolding (Albert, Arenas, Genaim and Puebla, Closed-form upper bounds in static cost analysis, section on direct
-- recursion): in a rule each call of a node that is no cover is replaced, in order, by each rule of that node.
use Rattle.std.specs.Prelude.{◌≡◌, ◌≢◌, ◌↔◌, ℕ, nat_eq, Bool, true, false, List, [], ◌∷◌, ◌++◌, length, map, slice_index, slice_index_or, Contains}
use Rattle.std.specs.List.{flat_map}
use Rattle.lin_rows.specs.Linear.{Linear}
use Rattle.rule_terms.specs.declared.item.Item.{Item}
use Rattle.rule_terms.specs.declared.item.Item.TheVariants.{Assume, Spend, Fresh, Call}
use Rattle.relations.specs.declared.node.Node.{Node}
use Rattle.relations.specs.Relation.{Relation, ways_of}
use Rattle.graph_core.specs.Graphs.{HasEdge}
use Rattle.base_relations.specs.Steps.{Step, Does, Enters, Leaves, Trace, steps_of}

-- the ways through the rules of each node
abbrev pub node_ways : Relation → List (List (List Item))
node_ways relation = map (λ (node : Node). ways_of node.rules) relation

abbrev pub ways_at : List (List (List Item)) → ℕ → List (List Item)
ways_at ways n = slice_index_or ways n []

-- ---- calls
-- some way has a call of the node
abbrev pub Calls : List (List Item) → ℕ → Type 0
Calls ways b = (way : List Item) × (args : List Linear) × Contains ways way × Contains way (Call b args)

-- The graph of calls: an edge leads from each node to those that its rules call.
pub record IsCallGraph (ways : List (List (List Item))) (g : List (List ℕ)) : Type 0 where
  pub nodes : length g ≡ length ways
  pub edges : (a b : ℕ) → HasEdge g a b ↔ Calls (ways_at ways a) b

-- ---- replacing
-- a node that is the cover of its own component
abbrev pub is_cover : List ℕ → ℕ → Bool
is_cover covers n = nat_eq (slice_index covers n) n

-- an item that is no call of another node
abbrev pub stays : List ℕ → Step → Bool
stays covers (Does (Assume row)) = true
stays covers (Does (Spend n)) = true
stays covers (Does (Fresh v)) = true
stays covers (Does (Call node args)) = is_cover covers node
stays covers (Enters args) = true
stays covers Leaves = true

-- What comes of steps in which calls are still to be replaced, as a list: it is given by what comes of the rest, or of the
-- steps in which the first such call is replaced.
pub record IsUnfolding (ways : List (List (List Item))) (covers : List ℕ) (unfolded : List Step → List Trace) : Type 0 where
  pub nothing : unfolded [] ≡ [] ∷ []
  pub stay : (step : Step) (rest : List Step) → stays covers step ≡ true → unfolded (step ∷ rest) ≡ map (λ (t : Trace). step ∷ t) (unfolded rest)
  pub replaced : (node : ℕ) (args : List Linear) (rest : List Step) → is_cover covers node ≡ false
      → unfolded (Does (Call node args) ∷ rest)
      ≡ flat_map (λ (way : List Item). map (λ (t : Trace). Enters args ∷ t) (unfolded (steps_of way ++ Leaves ∷ rest))) (ways_at ways node)

-- what comes of all ways of a node, in order
abbrev pub node_traces : (List Step → List Trace) → List (List (List Item)) → ℕ → List Trace
node_traces unfolded ways n = flat_map (λ (way : List Item). unfolded (steps_of way)) (ways_at ways n)
