use Rattle.std.specs.Prelude.{◌≡◌, ◌≢◌, ◌⊎◌, ℕ, Option, Some, None, List, [], ◌∷◌, ◌++◌, length, slice_index_or, take, Contains}
use Rattle.graph_core.specs.Loops.{HasLoop, IsInLoop}
use Rattle.graph_core.specs.Paths.{LiesOnFirstPath}

-- Of the loops with these entries that hold x and don't begin there, the one whose entry stands last on the
-- first path to x, or none.
abbrev pub IsAround : List (List ℕ) → ℕ → List ℕ → ℕ → Option ℕ → Type 0
IsAround g root entries x None = (h : ℕ) → Contains entries h → IsInLoop g root h x → h ≡ x
IsAround g root entries x (Some p) =
    HasLoop g root p × IsInLoop g root p x × (p ≢ x) × ((h : ℕ) → Contains entries h → IsInLoop g root h x → h ≢ x → LiesOnFirstPath g root h p)

-- for each node
pub record AreAround (g : List (List ℕ)) (root : ℕ) (entries : List ℕ) (around : List (Option ℕ)) : Type 0 where
  pub count : length around ≡ length g
  pub each : (x : ℕ) → IsAround g root entries x (slice_index_or around x None)

-- the loop of h is taken into account at the first i of its nodes
pub record AreAroundTo (g : List (List ℕ)) (root : ℕ) (entries : List ℕ) (h : ℕ) (nodes : List ℕ) (i : ℕ) (around : List (Option ℕ)) : Type 0 where
  pub before : AreAround g root entries around
  pub more : (x : ℕ) → Contains (take i nodes) x → IsAround g root (entries ++ h ∷ []) x (slice_index_or around x None)

-- what is innermost so far: the node itself where a loop with one of these entries begins there, or what is around
pub record AreInnerTo (parents : List (Option ℕ)) (entries : List ℕ) (inner : List (Option ℕ)) : Type 0 where
  pub count : length inner ≡ length parents
  pub each : (x : ℕ) → (Contains entries x × (slice_index_or inner x None ≡ Some x)) ⊎ ((Contains entries x → ⊥) × (slice_index_or inner x None ≡ slice_index_or parents x None))
