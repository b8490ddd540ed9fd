-- Path lengths of references (Spoto, Mesnard and Payet, A termination analyzer for Java bytecode based on path-length, 2010).
-- An array counts as one object.
use Rattle.std.specs.Prelude.{◌≡◌, ◌⊎◌, ℕ, zero, suc, Contains, IsSome, Option, Some, None}
use Rattle.frames.specs.declared.value.Value.{Value}
use Rattle.frames.specs.declared.value.Value.TheVariants.{Int, Long, Pad, Null, Ref}
use Rattle.frames.specs.Heap.{Cells, cell_at}
use Rattle.entries.specs.Entry.{values_in, Leads, Reaches, IsAcyclic}

-- a chain of so many objects begins at a value: each next one is referred to by a field or element of the one before
abbrev pub HasChain : Cells → ℕ → Value → Type 0
HasChain heap zero value = Unit {0}
HasChain heap (suc n) (Int z) = ⊥
HasChain heap (suc n) (Long z) = ⊥
HasChain heap (suc n) Pad = ⊥
HasChain heap (suc n) Null = ⊥
HasChain heap (suc n) (Ref a) = (n ≡ zero) ⊎ ((next : Value) × Contains (values_in (cell_at heap a)) next × HasChain heap n next)

-- the longest chain has so many
pub record IsLongest (heap : Cells) (value : Value) (n : ℕ) : Type 0 where
  pub chain : HasChain heap n value
  pub no_longer : ¬ HasChain heap (suc n) value

-- no cycle is reached
abbrev pub ReachesNoCycle : Cells → Value → Type 0
ReachesNoCycle heap (Ref a) = IsAcyclic heap a
ReachesNoCycle heap value = Unit {0}

-- a cycle is reached
abbrev pub ReachesCycle : Cells → Value → Type 0
ReachesCycle heap (Ref a) = (b : ℕ) × Reaches heap a b × Leads heap b b
ReachesCycle heap value = ⊥

-- the path length, and none where a cycle is reached
abbrev pub IsPathLength : Cells → Value → Option ℕ → Type 0
IsPathLength heap value (Some n) = IsLongest heap value n × ReachesNoCycle heap value
IsPathLength heap value None = ReachesCycle heap value

-- ---- what has a path length
-- null or a reference
abbrev pub IsReference : Value → Type 0
IsReference (Int z) = ⊥
IsReference (Long z) = ⊥
IsReference Pad = ⊥
IsReference Null = Unit {0}
IsReference (Ref a) = Unit {0}

-- the heap holds whatever is reached
abbrev pub HoldsReached : Cells → Value → Type 0
HoldsReached heap (Ref a) = (b : ℕ) → Reaches heap a b → IsSome (cell_at heap b)
HoldsReached heap value = Unit {0}
