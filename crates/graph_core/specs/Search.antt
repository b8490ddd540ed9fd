use Rattle.std.specs.Prelude.{◌≡◌, ◌↔◌, ℕ, ◌<◌, ◌≤◌, Option, Some, None, List, length, slice_index, slice_index_or}
use Rattle.graph_core.specs.Graphs.{HasEdge}
use Rattle.graph_core.specs.Paths.{Reaches, LiesOnFirstPath}

-- What a depth first search has found (Tarjan 1972): the nodes in the order in which they were found,
-- which numbers them from 0; for each number that of the node from which it was found, and the last
-- number that was found before its node was left. The number of each node, where it was found.
pub record Found : Type 0 where
  pub order : List ℕ
  pub parents : List ℕ
  pub lasts : List ℕ
  pub numbers : List (Option ℕ)

abbrev pub node_at : Found → ℕ → ℕ
node_at f k = slice_index f.order k

abbrev pub parent_at : Found → ℕ → ℕ
parent_at f k = slice_index f.parents k

abbrev pub last_at : Found → ℕ → ℕ
last_at f k = slice_index f.lasts k

abbrev pub number_of : Found → ℕ → Option ℕ
number_of f v = slice_index_or f.numbers v None

-- the node has a number of at most so much
abbrev pub IsFoundBy : Found → ℕ → ℕ → Type 0
IsFoundBy f v most = (k : ℕ) × (number_of f v ≡ Some k) × (k ≤ most)

-- numbers and nodes fit each other
pub record IsNumbered (g : List (List ℕ)) (f : Found) : Type 0 where
  pub some : 0 < length f.order
  pub parent_count : length f.parents ≡ length f.order
  pub last_count : length f.lasts ≡ length f.order
  pub number_count : length f.numbers ≡ length g
  pub nodes : (k : ℕ) → k < length f.order → node_at f k < length g
  pub numbered : (k : ℕ) → k < length f.order → number_of f (node_at f k) ≡ Some k
  pub named : (v k : ℕ) → number_of f v ≡ Some k → (k < length f.order) × (node_at f k ≡ v)

-- the node with number k was found from that of its parent, after each lower successor of it, and
-- the numbers from k to its last are those that were found before it was left
pub record IsInTree (g : List (List ℕ)) (f : Found) (k : ℕ) : Type 0 where
  pub last : k ≤ last_at f k
  pub earlier : 0 < k → parent_at f k < k
  pub edge : 0 < k → HasEdge g (node_at f (parent_at f k)) (node_at f k)
  pub inside : 0 < k → last_at f k ≤ last_at f (parent_at f k)
  pub lower : (s : ℕ) → 0 < k → HasEdge g (node_at f (parent_at f k)) s → s < node_at f k → (m : ℕ) × (number_of f s ≡ Some m) × (m < k)
  pub around : (m : ℕ) → m < k → k ≤ last_at f m → m ≤ parent_at f k

-- each successor was found before the node was left
abbrev pub IsLeft : List (List ℕ) → Found → ℕ → Type 0
IsLeft g f k = (s : ℕ) → HasEdge g (node_at f k) s → IsFoundBy f s (last_at f k)

-- A search from the root that is done.
pub record IsSearchTree (g : List (List ℕ)) (root : ℕ) (f : Found) : Type 0 where
  pub first : node_at f 0 ≡ root
  pub numbered : IsNumbered g f
  pub tree : (k : ℕ) → k < length f.order → IsInTree g f k
  pub left : (k : ℕ) → k < length f.order → IsLeft g f k

-- the search has found the node
abbrev pub IsTold : Found → ℕ → Type 0
IsTold f v = (k : ℕ) × (number_of f v ≡ Some k)

-- it has found v from h, or from what was found from h
abbrev pub IsToldOn : Found → ℕ → ℕ → Type 0
IsToldOn f h v =
    (m : ℕ) × (k : ℕ) × (number_of f h ≡ Some m) × (number_of f v ≡ Some k) × (m ≤ k) × (k ≤ last_at f m)

-- What a search from the root tells of paths: which nodes the root reaches, and which of them lie on the
-- first path to a node.
pub record IsSearch (g : List (List ℕ)) (root : ℕ) (f : Found) : Type 0 where
  pub count : length f.numbers ≡ length g
  pub fits : (v k : ℕ) → number_of f v ≡ Some k → k < length f.lasts
  pub reached : (v : ℕ) → IsTold f v ↔ Reaches g root v
  pub on : (h v : ℕ) → IsToldOn f h v ↔ LiesOnFirstPath g root h v
