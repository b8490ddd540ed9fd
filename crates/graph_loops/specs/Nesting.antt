use Rattle.std.specs.Prelude.{◌≡◌, ◌≢◌, ◌↔◌, ℕ, ◌<◌, Option, Some, None, List, length, slice_index, slice_index_or, Contains}
use Rattle.graph_core.specs.Graphs.{HasEdge}
use Rattle.graph_core.specs.Paths.{Reaches}
use Rattle.graph_core.specs.Loops.{IsBackEdge, HasLoop, IsInLoop}
use Rattle.graph_core.specs.Nests.{Entered, IsNest}

-- How the loops of what a root reaches lie in one another, and around its nodes.

-- a loop begins at h and holds x
abbrev pub Holds : List (List ℕ) → ℕ → ℕ → ℕ → Type 0
Holds g root h x = HasLoop g root h × IsInLoop g root h x

-- the loop of h lies in the loop of k
abbrev pub LiesWithin : List (List ℕ) → ℕ → ℕ → ℕ → Type 0
LiesWithin g root h k = (x : ℕ) → IsInLoop g root h x → IsInLoop g root k x

-- the innermost loop that holds x, by its entry, or none where no loop does
abbrev pub IsInnermost : List (List ℕ) → ℕ → ℕ → Option ℕ → Type 0
IsInnermost g root x None = (h : ℕ) → Holds g root h x → ⊥
IsInnermost g root x (Some h) = Holds g root h x × ((k : ℕ) → Holds g root k x → LiesWithin g root h k)

-- The innermost of the loops that hold x and don't begin there, by its entry, or none. Where a loop begins at
-- x, this is its parent.
abbrev pub IsParent : List (List ℕ) → ℕ → ℕ → Option ℕ → Type 0
IsParent g root x None = (h : ℕ) → Holds g root h x → h ≡ x
IsParent g root x (Some h) =
    Holds g root h x × (h ≢ x) × ((k : ℕ) → Holds g root k x → k ≢ x → LiesWithin g root h k)

-- The nodes that the root reaches, each once, in an order in which each edge that is no back edge goes forward.
pub record IsForward (g : List (List ℕ)) (root : ℕ) (order : List ℕ) : Type 0 where
  pub held : (x : ℕ) → Contains order x ↔ Reaches g root x
  pub once : (i j : ℕ) → i < j → j < length order → slice_index order i ≢ slice_index order j
  pub forward : (i j : ℕ) → i < length order → j < length order → HasEdge g (slice_index order i) (slice_index order j) → (IsBackEdge g root (slice_index order i) (slice_index order j) → ⊥) → i < j

-- loops, the innermost loop and the parent of each node, and the nodes in order
pub record Nested : Type 0 where
  pub loops : List Entered
  pub innermost : List (Option ℕ)
  pub parents : List (Option ℕ)
  pub order : List ℕ

-- what is told of the loops of what the root reaches
pub record IsNested (g : List (List ℕ)) (root : ℕ) (n : Nested) : Type 0 where
  pub nest : IsNest g root n.loops
  pub innermost_count : length n.innermost ≡ length g
  pub parent_count : length n.parents ≡ length g
  pub inner : (x : ℕ) → x < length g → IsInnermost g root x (slice_index_or n.innermost x None)
  pub parent : (x : ℕ) → x < length g → IsParent g root x (slice_index_or n.parents x None)
  pub forward : IsForward g root n.order
