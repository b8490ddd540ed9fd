use Rattle.std.specs.Prelude.{◌≡◌, ◌↔◌, ℕ, ◌<◌, Bool, List, [], Contains, length, slice_index, slice_index_or}
use Rattle.graph_core.specs.Marked.{IsMarked}

-- A directed graph is the list of its nodes' successors; nodes are numbered from 0.

-- the successors of a node
abbrev pub successors_of : List (List ℕ) → ℕ → List ℕ
successors_of g a = slice_index_or g a []

-- an edge leads from a to b
abbrev pub HasEdge : List (List ℕ) → ℕ → ℕ → Type 0
HasEdge g a b = Contains (successors_of g a) b

-- each number is lower than those after it
abbrev pub IsRising : List ℕ → Type 0
IsRising xs = (i j : ℕ) → i < j → j < length xs → slice_index xs i < slice_index xs j

-- each edge leads to a node
abbrev pub EndsAtNodes : List (List ℕ) → Type 0
EndsAtNodes g = (a b : ℕ) → HasEdge g a b → b < length g

-- the same nodes, with each edge turned round
pub record IsReverse (g back : List (List ℕ)) : Type 0 where
  pub nodes : length back ≡ length g
  pub turned : (a b : ℕ) → HasEdge back b a ↔ HasEdge g a b

-- the edges from nodes below n are turned round
abbrev pub IsTurned : List (List ℕ) → List (List ℕ) → ℕ → Type 0
IsTurned g back n = (a b : ℕ) → HasEdge back b a ↔ (HasEdge g a b × (a < n))

-- the same nodes, with the edges to those that aren't dropped
pub record IsWithout (g : List (List ℕ)) (dropped : List Bool) (h : List (List ℕ)) : Type 0 where
  pub nodes : length h ≡ length g
  pub edges : (a b : ℕ) → HasEdge h a b ↔ (HasEdge g a b × (IsMarked dropped b → ⊥))

-- of the edges that are to be kept, those from nodes below n
abbrev pub AreKept : List (List ℕ) → (ℕ → ℕ → Type 0) → List (List ℕ) → ℕ → Type 0
AreKept g Keep h n = (a b : ℕ) → HasEdge h a b ↔ (HasEdge g a b × (a < n) × Keep a b)
