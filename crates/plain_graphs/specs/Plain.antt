use Rattle.std.specs.Prelude.{◌≡◌, ◌↔◌, ◌⊎◌, ℕ, ◌<◌, Bool, true, false, List, [], ◌∷◌, length, All, Contains, slice_index_or}
use Rattle.graph_core.specs.Paths.{IsPath, IsWithoutRepeat, LiesOnFirstPath}
use Rattle.graph_core.specs.Loops.{IsBackEdge, IsBelow}

-- not used so far
abbrev pub IsFree : List Bool → ℕ → Type 0
IsFree used x = slice_index_or used x true ≡ false

-- the list is empty, or begins below n
abbrev pub BeginsBelow : ℕ → List ℕ → Type 0
BeginsBelow n [] = Unit {0}
BeginsBelow n (x ∷ xs) = x < n

-- all lists without repeat of what isn't used, that are empty or begin below n
abbrev pub AreListedTo : List Bool → ℕ → List (List ℕ) → Type 0
AreListedTo used n lists = (xs : List ℕ) → Contains lists xs ↔ (IsWithoutRepeat xs × All (IsFree used) xs × BeginsBelow n xs)

-- all lists without repeat of what isn't used
abbrev pub AreListed : List Bool → List (List ℕ) → Type 0
AreListed used lists = (xs : List ℕ) → Contains lists xs ↔ (IsWithoutRepeat xs × All (IsFree used) xs)

-- all lists of nodes below n without repeat
abbrev pub AreLists : ℕ → List (List ℕ) → Type 0
AreLists n lists = (xs : List ℕ) → Contains lists xs ↔ (IsWithoutRepeat xs × All (λ x. x < n) xs)

-- the lists, and x before each tail
abbrev pub ArePutBefore : ℕ → List (List ℕ) → List (List ℕ) → List (List ℕ) → Type 0
ArePutBefore x tails lists lists' = (xs : List ℕ) → Contains lists' xs ↔ (Contains lists xs ⊎ ((ys : List ℕ) × Contains tails ys × (xs ≡ x ∷ ys)))

-- the nodes on the first path to x, and none where there is no path
abbrev pub IsTrunk : List (List ℕ) → ℕ → ℕ → List ℕ → Type 0
IsTrunk g root x trunk = (h : ℕ) → Contains trunk h ↔ LiesOnFirstPath g root h x

-- all lists of a graph's nodes, and the first paths from a root
pub record ArePlain (g : List (List ℕ)) (root : ℕ) (all ways : List (List ℕ)) : Type 0 where
  pub within : root < length g
  pub lists : AreLists (length g) all
  pub count : length ways ≡ length g
  pub trunks : (x : ℕ) → x < length g → IsTrunk g root x (slice_index_or ways x [])

-- this list of nodes after x loops back to h
pub record LoopsBackBy (g : List (List ℕ)) (root h x : ℕ) (rest : List ℕ) : Type 0 where
  pub source : ℕ
  pub path : IsPath g x rest source
  pub back : IsBackEdge g root source h
  pub below : All (IsBelow g root h) (x ∷ rest)
