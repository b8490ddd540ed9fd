-- What comes of steps, made from what comes of the nodes that they call, up to a depth of calls.
use Rattle.std.specs.Prelude.{◌≡◌, ℕ, zero, suc, ◌<◌, max, false, List, [], ◌∷◌, ◌++◌, map, length, slice_index, if◌then◌else◌, Contains}
use Rattle.std.specs.List.{flat_map}
use Rattle.lin_rows.specs.Linear.{Linear}
use Rattle.rule_terms.specs.declared.item.Item.{Item}
use Rattle.rule_terms.specs.declared.item.Item.TheVariants.{Assume, Spend, Fresh, Call}
use Rattle.base_relations.specs.Steps.{Step, Does, Enters, Leaves, Trace, steps_of}
use Rattle.base_relations.specs.Unfolding.{ways_at, is_cover}

-- each of the first with each of the second behind it
abbrev pub combined : List Trace → List Trace → List Trace
combined xs ys = flat_map (λ (x : Trace). map (λ (y : Trace). x ++ y) ys) xs

-- one step, where a replaced node comes to the inner traces
abbrev pub step_expansion : List ℕ → (ℕ → List Trace) → Step → List Trace
step_expansion covers inner (Does (Assume row)) = (Does (Assume row) ∷ []) ∷ []
step_expansion covers inner (Does (Spend n)) = (Does (Spend n) ∷ []) ∷ []
step_expansion covers inner (Does (Fresh v)) = (Does (Fresh v) ∷ []) ∷ []
step_expansion covers inner (Does (Call node args)) =
    if is_cover covers node then (Does (Call node args) ∷ []) ∷ [] else map (λ (t : Trace). Enters args ∷ (t ++ Leaves ∷ [])) (inner node)
step_expansion covers inner (Enters args) = (Enters args ∷ []) ∷ []
step_expansion covers inner Leaves = (Leaves ∷ []) ∷ []

abbrev pub expansion : List ℕ → (ℕ → List Trace) → List Step → List Trace
expansion covers inner [] = [] ∷ []
expansion covers inner (step ∷ rest) = combined (step_expansion covers inner step) (expansion covers inner rest)

-- a node, to a depth of calls
abbrev pub node_expansion : List (List (List Item)) → List ℕ → ℕ → ℕ → List Trace
node_expansion ways covers zero n = [] ∷ []
node_expansion ways covers (suc h) n = flat_map (λ (way : List Item). expansion covers (node_expansion ways covers h) (steps_of way)) (ways_at ways n)

abbrev pub greatest : List ℕ → ℕ
greatest [] = 0
greatest (r ∷ ranks) = max r (greatest ranks)

-- to the depth of all ranks
unfoldable pub unfolded_by : List (List (List Item)) → List ℕ → List ℕ → List Step → List Trace
unfolded_by ways covers ranks steps = expansion covers (node_expansion ways covers (suc (greatest ranks))) steps

-- Ranks go down along replaced calls, and each node whose calls are replaced has a way.
pub record IsPlan (ways : List (List (List Item))) (covers ranks : List ℕ) : Type 0 where
  pub down : (a node : ℕ) (way : List Item) (args : List Linear) → Contains (ways_at ways a) way → Contains way (Call node args) → is_cover covers node ≡ false
      → slice_index ranks node < slice_index ranks a
  pub calling : (a node : ℕ) (way : List Item) (args : List Linear) → Contains (ways_at ways a) way → Contains way (Call node args) → is_cover covers node ≡ false
      → 0 < length (ways_at ways node)
