use Rattle.std.specs.Prelude.{◌≡◌, ◌⊎◌, ℕ, ◌<◌, ◌≤◌, Bool, List, length, take, slice_index, Contains}
use Rattle.graph_core.specs.Marked.{IsMarked}
use Rattle.graph_core.specs.Paths.{Reaches}
use Rattle.graph_core.specs.Components.{AreTogether}

-- The components of a graph of calls, in which an edge leads from a caller to its callee, are put in an order
-- in which callees come first. Some nodes are chosen. A component that has a chosen node stands in the order
-- by the lowest of them. One that has none doesn't stand in it, and calls go through it.

-- v is the lowest chosen node of its component
pub record IsLowestChosen (g : List (List ℕ)) (chosen : List Bool) (v : ℕ) : Type 0 where
  pub marked : IsMarked chosen v
  pub lowest : (w : ℕ) → AreTogether g v w → IsMarked chosen w → v ≤ w

-- The component of v isn't in the order so far, and each other component that it calls into is.
pub record IsReady (g : List (List ℕ)) (chosen : List Bool) (before : List ℕ) (v : ℕ) : Type 0 where
  pub first : IsLowestChosen g chosen v
  pub waits : Contains before v → ⊥
  pub callees : (w : ℕ) → IsLowestChosen g chosen w → Reaches g v w → (w ≡ v) ⊎ Contains before w

-- of those that are ready, v is the lowest
pub record IsNext (g : List (List ℕ)) (chosen : List Bool) (before : List ℕ) (v : ℕ) : Type 0 where
  pub ready : IsReady g chosen before v
  pub lowest : (w : ℕ) → IsReady g chosen before w → v ≤ w

-- each is the next after those before it
abbrev pub AreNexts : List (List ℕ) → List Bool → List ℕ → Type 0
AreNexts g chosen order = (i : ℕ) → i < length order → IsNext g chosen (take i order) (slice_index order i)

-- The callee-first order of the components that have a chosen node, each by its lowest one.
pub record IsCalleeFirst (g : List (List ℕ)) (chosen : List Bool) (order : List ℕ) : Type 0 where
  pub next : AreNexts g chosen order
  pub every : (v : ℕ) → IsLowestChosen g chosen v → Contains order v
