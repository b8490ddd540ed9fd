use Rattle.std.specs.Prelude.{◌≡◌, ◌⊎◌, ◌↔◌, ℕ, ◌+◌, ◌<◌, ◌≤◌, Bool, Option, Some, None, List, [], ◌∷◌, ◌++◌, length, slice_index, Contains}
use Rattle.graph_core.specs.Graphs.{HasEdge, successors_of}
use Rattle.graph_core.specs.Marked.{IsMarked}
use Rattle.graph_core.specs.Walk.{looks_left}
use Rattle.graph_order.specs.inside.Parts.{first_of}

-- all callees of x were looked at
abbrev pub IsLooked : List (List ℕ) → List ℕ → ℕ → Type 0
IsLooked c nexts x = length (successors_of c x) ≤ slice_index nexts x

-- the next callee of x that is to be looked at isn't done
abbrev pub IsHeld : List (List ℕ) → List Bool → List ℕ → ℕ → Type 0
IsHeld c done nexts x =
    (slice_index nexts x < length (successors_of c x)) × (IsMarked done (slice_index (successors_of c x) (slice_index nexts x)) → ⊥)

-- x waits to be done: among those without a chosen node, or by the lowest one that it has
abbrev pub IsWaiting : List (Option ℕ) → List ℕ → List ℕ → ℕ → Type 0
IsWaiting firsts free ready x =
    ((first_of firsts x ≡ None) × Contains free x) ⊎ ((v : ℕ) × (first_of firsts x ≡ Some v) × Contains ready v)

-- v stands for a component that has been looked at whole, and isn't done
abbrev pub IsOpen : List (List ℕ) → List (Option ℕ) → List Bool → List ℕ → ℕ → Type 0
IsOpen c firsts done nexts v =
    (x : ℕ) × (x < length c) × (first_of firsts x ≡ Some v) × IsLooked c nexts x × (IsMarked done x → ⊥)

-- Components on their way into the order. Some are done, and their callees are. Of each so many callees were
-- looked at, which are done. Those of which all were looked at wait or are done, and each other one is held by
-- a callee that isn't done, unless a look at it is due.
pub record IsLine (c : List (List ℕ)) (firsts : List (Option ℕ)) (done : List Bool) (nexts free ready order : List ℕ) (IsDue : ℕ → Type 0) : Type 0 where
  pub done_count : length done ≡ length c
  pub next_count : length nexts ≡ length c
  pub looked : (x i : ℕ) → i < slice_index nexts x → i < length (successors_of c x) → IsMarked done (slice_index (successors_of c x) i)
  pub whole : (x : ℕ) → IsMarked done x → IsLooked c nexts x
  pub is_free : (x : ℕ) → Contains free x → (x < length c) × (first_of firsts x ≡ None) × IsLooked c nexts x
  pub is_ready : (v : ℕ) → Contains ready v → IsOpen c firsts done nexts v
  pub in_order : (v : ℕ) → Contains order v ↔ ((x : ℕ) × (first_of firsts x ≡ Some v) × IsMarked done x)
  pub waits : (x : ℕ) → x < length c → (IsMarked done x ⊎ IsWaiting firsts free ready x) ⊎ (IsHeld c done nexts x ⊎ IsDue x)

-- x waits now, beside those that did
abbrev pub IsPut : Option ℕ → ℕ → List ℕ → List ℕ → List ℕ → List ℕ → Type 0
IsPut None x free ready free' ready' = (free' ≡ free ++ x ∷ []) × (ready' ≡ ready)
IsPut (Some v) x free ready free' ready' =
    (free' ≡ free) × ((w : ℕ) → Contains ready' w ↔ (Contains ready w ⊎ (w ≡ v))) × (length ready' ≤ length ready + 1)

-- no look is due
abbrev pub NoneDue : ℕ → Type 0
NoneDue x = ⊥

-- a look is due at each from n on
abbrev pub IsDueFrom : ℕ → ℕ → Type 0
IsDueFrom n x = n ≤ x

-- nothing is done
abbrev pub IsAllUndone : List Bool → Type 0
IsAllUndone done = (x : ℕ) → IsMarked done x → ⊥

-- not all callees of x were looked at
abbrev pub IsUnlooked : List (List ℕ) → List ℕ → ℕ → Type 0
IsUnlooked c nexts x = slice_index nexts x < length (successors_of c x)

-- a look is due at those in the list from the i-th on that weren't looked at whole
abbrev pub AreDueFrom : List (List ℕ) → List ℕ → List ℕ → ℕ → ℕ → Type 0
AreDueFrom c nexts xs i x = (k : ℕ) × (i ≤ k) × (k < length xs) × (slice_index xs k ≡ x) × IsUnlooked c nexts x

-- a look is due at the callers of y that weren't looked at whole
abbrev pub AreCallersDue : List (List ℕ) → List ℕ → ℕ → ℕ → Type 0
AreCallersDue c nexts y x = HasEdge c x y × IsUnlooked c nexts x

-- what falls with each component that is done
abbrev pub line_left : List (List ℕ) → List ℕ → List ℕ → List ℕ → ℕ
line_left c nexts free ready = looks_left c nexts + length free + length ready
