use Rattle.std.specs.Prelude.{◌≡◌, ◌≢◌, ◌⊎◌, ℕ, ◌+◌, ◌*◌, ◌<◌, ◌≤◌, Bool, false, true, not, List, [], ◌∷◌, ◌++◌, length, Contains, count_by, slice_index, slice_index_or, slice_set}
use Rattle.graph_core.specs.Graphs.{HasEdge, successors_of}
use Rattle.graph_core.specs.Paths.{Reaches}
use Rattle.graph_core.specs.Marked.{IsMarked}
use Rattle.graph_core.specs.Walk.{looks_left}

-- When the node at place i was left, it reached all that had been left since it was found, and no edge
-- led there from what had been left before.
pub record IsLeftAt (g : List (List ℕ)) (order : List ℕ) (i : ℕ) : Type 0 where
  pub since : ℕ
  pub before : since ≤ i
  pub reached : (k : ℕ) → since ≤ k → k ≤ i → Reaches g (slice_index order i) (slice_index order k)
  pub closed : (k j : ℕ) → k < since → since ≤ j → j ≤ i → HasEdge g (slice_index order k) (slice_index order j) → ⊥

-- All nodes, in an order in which a depth first walk leaves them.
pub record IsLeaving (g : List (List ℕ)) (order : List ℕ) : Type 0 where
  pub nodes : (i : ℕ) → i < length order → slice_index order i < length g
  pub every : (x : ℕ) → x < length g → Contains order x
  pub distinct : (i j : ℕ) → i < j → j < length order → slice_index order i ≢ slice_index order j
  pub left : (i : ℕ) → i < length order → IsLeftAt g order i

-- The node at place a of the stack isn't left so far. It reaches what was left since it was found, and
-- what stands above it; what was left before leads to what was left before or stands below it.
pub record IsWaitingAt (g : List (List ℕ)) (stack order : List ℕ) (a : ℕ) : Type 0 where
  pub since : ℕ
  pub before : since ≤ length order
  pub reached : (k : ℕ) → since ≤ k → k < length order → Reaches g (slice_index stack a) (slice_index order k)
  pub above : (b : ℕ) → a ≤ b → b < length stack → Reaches g (slice_index stack a) (slice_index stack b)
  pub closed : (k y : ℕ) → k < since → HasEdge g (slice_index order k) y → ((j : ℕ) × (j < since) × (slice_index order j ≡ y)) ⊎ ((b : ℕ) × (b < a) × (slice_index stack b ≡ y))

-- A depth first walk on its way: what was found stands on the stack or was left, and of each node so many
-- successors were looked at.
pub record IsRound (g : List (List ℕ)) (found : List Bool) (nexts stack order : List ℕ) : Type 0 where
  pub found_count : length found ≡ length g
  pub next_count : length nexts ≡ length g
  pub spare : length stack + length order + count_by not found ≡ length g
  pub in_stack : (i : ℕ) → i < length stack → IsMarked found (slice_index stack i)
  pub in_order : (i : ℕ) → i < length order → IsMarked found (slice_index order i)
  pub placed : (x : ℕ) → IsMarked found x → Contains stack x ⊎ Contains order x
  pub stack_distinct : (i j : ℕ) → i < j → j < length stack → slice_index stack i ≢ slice_index stack j
  pub order_distinct : (i j : ℕ) → i < j → j < length order → slice_index order i ≢ slice_index order j
  pub apart : (i j : ℕ) → i < length stack → j < length order → slice_index stack i ≢ slice_index order j
  pub looked : (x i : ℕ) → i < slice_index nexts x → i < length (successors_of g x) → IsMarked found (slice_index (successors_of g x) i)
  pub done : (k y : ℕ) → k < length order → HasEdge g (slice_index order k) y → IsMarked found y
  pub waiting : (a : ℕ) → a < length stack → IsWaitingAt g stack order a
  pub left : (i : ℕ) → i < length order → IsLeftAt g order i

-- s stands on the stack now, unless it was found before
abbrev pub IsEntered : List Bool → List ℕ → ℕ → List Bool → List ℕ → Type 0
IsEntered found stack s found' stack' =
    (IsMarked found s × (found' ≡ found) × (stack' ≡ stack))
    ⊎ ((slice_index_or found s false ≡ false) × (found' ≡ slice_set found s true) × (stack' ≡ stack ++ s ∷ []))

-- what the root reaches was left since
pub record IsMoreFrom (g : List (List ℕ)) (root : ℕ) (order order' : List ℕ) : Type 0 where
  pub longer : length order ≤ length order'
  pub kept : (k : ℕ) → k < length order → slice_index order' k ≡ slice_index order k
  pub reached : (k : ℕ) → length order ≤ k → k < length order' → Reaches g root (slice_index order' k)

-- the root reaches all on the stack
abbrev pub IsReaching : List (List ℕ) → ℕ → List ℕ → Type 0
IsReaching g root stack = (i : ℕ) → i < length stack → Reaches g root (slice_index stack i)

-- what falls with each step of a walk
abbrev pub round_left : List (List ℕ) → List ℕ → List ℕ → ℕ
round_left g nexts stack = 2 * looks_left g nexts + length stack
