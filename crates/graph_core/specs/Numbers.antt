use Rattle.std.specs.Prelude.{◌≡◌, ◌↔◌, ℕ, ◌<◌, ◌≤◌, List, length, slice_index}
use Rattle.graph_core.specs.Graphs.{HasEdge}
use Rattle.graph_core.specs.Components.{AreTogether}

-- The number of each node's component: two nodes have one number exactly where each reaches the other,
-- and no edge leads to a node with a greater number.
pub record AreComponents (g : List (List ℕ)) (numbers : List ℕ) : Type 0 where
  pub count : length numbers ≡ length g
  pub together : (a b : ℕ) → a < length g → b < length g → (slice_index numbers a ≡ slice_index numbers b) ↔ AreTogether g a b
  pub callees : (a b : ℕ) → HasEdge g a b → a < length g → slice_index numbers b ≤ slice_index numbers a

-- Numbers are given from 0 on without a gap, so many of them: each is below the count, and each number
-- below the count is that of a node.
pub record AreCounted (numbers : List ℕ) (count : ℕ) : Type 0 where
  pub below : (x : ℕ) → x < length numbers → slice_index numbers x < count
  pub given : (k : ℕ) → k < count → (x : ℕ) × (x < length numbers) × (slice_index numbers x ≡ k)
