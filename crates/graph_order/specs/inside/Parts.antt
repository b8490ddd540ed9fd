use Rattle.std.specs.Prelude.{◌≡◌, ◌≢◌, ◌↔◌, ℕ, ◌<◌, ◌≤◌, Bool, Option, Some, None, List, length, slice_index, slice_index_or, Contains}
use Rattle.graph_core.specs.Graphs.{HasEdge, IsReverse}
use Rattle.graph_core.specs.Marked.{IsMarked}
use Rattle.graph_core.specs.Numbers.{AreComponents, AreCounted}

-- an edge leads from a node with the number x to a node with another number y
abbrev pub Joins : List (List ℕ) → List ℕ → ℕ → ℕ → Type 0
Joins g numbers x y = (a : ℕ) × (b : ℕ) × HasEdge g a b × (slice_index numbers a ≡ x) × (slice_index numbers b ≡ y) × (x ≢ y)

-- the numbers that are joined by edges from nodes below n
abbrev pub AreJoinsTo : List (List ℕ) → List ℕ → ℕ → List (ℕ × ℕ) → Type 0
AreJoinsTo g numbers n edges =
    (x y : ℕ) → Contains edges (x, y) ↔ ((a : ℕ) × (b : ℕ) × (a < n) × HasEdge g a b × (slice_index numbers a ≡ x) × (slice_index numbers b ≡ y) × (x ≢ y))

-- the graph of components, each by its number
pub record IsCondensed (g : List (List ℕ)) (numbers : List ℕ) (c : List (List ℕ)) : Type 0 where
  pub counted : AreCounted numbers (length c)
  pub edges : (x y : ℕ) → HasEdge c x y ↔ Joins g numbers x y

abbrev pub first_of : List (Option ℕ) → ℕ → Option ℕ
first_of firsts x = slice_index_or firsts x None

-- Of the nodes from i on the lowest chosen one with each number, by the number.
pub record AreFirstFrom (numbers : List ℕ) (chosen : List Bool) (i : ℕ) (firsts : List (Option ℕ)) : Type 0 where
  pub within : (v x : ℕ) → first_of firsts x ≡ Some v → v < length numbers
  pub number : (v x : ℕ) → first_of firsts x ≡ Some v → slice_index numbers v ≡ x
  pub marked : (v x : ℕ) → first_of firsts x ≡ Some v → IsMarked chosen v
  pub each : (w : ℕ) → i ≤ w → w < length numbers → IsMarked chosen w → (v : ℕ) × (first_of firsts (slice_index numbers w) ≡ Some v) × (v ≤ w)

-- A graph's components, what joins them, and the lowest chosen node of each.
pub record AreParts (g : List (List ℕ)) (chosen : List Bool) (numbers : List ℕ) (calls callers : List (List ℕ)) (firsts : List (Option ℕ)) : Type 0 where
  pub chosen_count : length chosen ≡ length g
  pub components : AreComponents g numbers
  pub condensed : IsCondensed g numbers calls
  pub reversed : IsReverse calls callers
  pub first_count : length firsts ≡ length calls
  pub lowest : AreFirstFrom numbers chosen 0 firsts
