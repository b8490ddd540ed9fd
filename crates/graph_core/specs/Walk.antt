use Rattle.std.specs.Prelude.{◌≡◌, ◌⊎◌, ℕ, ◌+◌, ◌-◌, ◌*◌, ◌<◌, ◌≤◌, Some, not, List, [], ◌∷◌, ◌++◌, length, count_by, slice_index, slice_set, is_some}
use Rattle.graph_core.specs.Graphs.{successors_of}
use Rattle.graph_core.specs.Search.{Found, last_at, number_of, IsNumbered, IsInTree, IsLeft}

-- a node more, found from the one with this number, and not left so far
abbrev pub found_more : Found → ℕ → ℕ → Found
found_more f v from =
    record {
      order = f.order ++ v ∷ [];
      parents = f.parents ++ from ∷ [];
      lasts = f.lasts ++ length f.numbers ∷ [];
      numbers = slice_set f.numbers v (Some (length f.order));
    }

-- the node with number k is left: the last number is the last that was given out
abbrev pub left_at : Found → ℕ → Found
left_at f k = record f { lasts = slice_set f.lasts k (length f.order - 1) }

-- how many nodes aren't found so far
abbrev pub unfound : Found → ℕ
unfound f = count_by (λ o. not (is_some o)) f.numbers

-- A search on its way: it stands at a node, and of each node so many successors were looked at. The
-- last number of a node that isn't left is as high as there are nodes.
pub record IsWalk (g : List (List ℕ)) (f : Found) (nexts : List ℕ) (here : ℕ) : Type 0 where
  pub numbered : IsNumbered g f
  pub spare : length f.order + unfound f ≡ length g
  pub tree : (k : ℕ) → k < length f.order → IsInTree g f k
  pub below : here < length f.order
  pub waits : last_at f here ≡ length g
  pub left : (k : ℕ) → k < length f.order → (last_at f k ≡ length g) ⊎ ((last_at f k < length f.order) × IsLeft g f k)
  pub under : (k : ℕ) → k < length f.order → last_at f k ≡ length g → k ≤ here
  pub next_count : length nexts ≡ length g
  pub looked : (v i : ℕ) → i < slice_index nexts v → i < length (successors_of g v) → (m : ℕ) × (number_of f (slice_index (successors_of g v) i) ≡ Some m)

-- how many successors are still to be looked at
abbrev pub looks_left : List (List ℕ) → List ℕ → ℕ
looks_left [] nexts = 0
looks_left (row ∷ g) [] = 0
looks_left (row ∷ g) (next ∷ nexts) = (length row - next) + looks_left g nexts

-- what falls with each step: a look takes one away, and a leave leads to a lower number
abbrev pub steps_left : List (List ℕ) → List ℕ → ℕ → ℕ
steps_left g nexts here = looks_left g nexts * length g + here
