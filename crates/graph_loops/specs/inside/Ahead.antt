use Rattle.std.specs.Prelude.{◌≡◌, ◌⊎◌, ◌↔◌, ℕ, ◌<◌, ◌≤◌, List, length, slice_index, Contains}
use Rattle.graph_core.specs.Graphs.{HasEdge, successors_of}
use Rattle.graph_core.specs.Paths.{Reaches, LiesOnFirstPath}

-- an edge from what the root reaches, and no back edge
abbrev pub LeadsAhead : List (List ℕ) → ℕ → ℕ → ℕ → Type 0
LeadsAhead g root a b = HasEdge g a b × Reaches g root a × (LiesOnFirstPath g root b a → ⊥)

-- those edges alone
pub record IsAhead (g : List (List ℕ)) (root : ℕ) (ahead : List (List ℕ)) : Type 0 where
  pub nodes : length ahead ≡ length g
  pub edges : (a b : ℕ) → HasEdge ahead a b ↔ LeadsAhead g root a b

-- those from nodes below n
abbrev pub AreAheadTo : List (List ℕ) → ℕ → ℕ → List (List ℕ) → Type 0
AreAheadTo g root n ahead = (a b : ℕ) → HasEdge ahead a b ↔ (LeadsAhead g root a b × (a < n))

-- those, and the first i from n
abbrev pub AreAheadAt : List (List ℕ) → ℕ → ℕ → ℕ → List (List ℕ) → Type 0
AreAheadAt g root n i ahead =
    (a b : ℕ) → HasEdge ahead a b ↔ (LeadsAhead g root a b × ((a < n) ⊎ ((a ≡ n) × ((k : ℕ) × (k < i) × (k < length (successors_of g n)) × (slice_index (successors_of g n) k ≡ b)))))

-- the nodes below n by their numbers
abbrev pub ArePlaced : List ℕ → ℕ → List ℕ → Type 0
ArePlaced numbers n places = (x : ℕ) → x < n → slice_index places (slice_index numbers x) ≡ x

-- the reached nodes with a number of at least k, with falling numbers
pub record IsFallingTo (g : List (List ℕ)) (root : ℕ) (numbers : List ℕ) (k : ℕ) (order : List ℕ) : Type 0 where
  pub held : (x : ℕ) → Contains order x ↔ (Reaches g root x × (k ≤ slice_index numbers x))
  pub falls : (i j : ℕ) → i < j → j < length order → slice_index numbers (slice_index order j) < slice_index numbers (slice_index order i)
