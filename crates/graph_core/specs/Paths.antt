use Rattle.std.specs.Prelude.{◌≡◌, ◌⊎◌, ℕ, ◌<◌, List, [], ◌∷◌, Contains}
use Rattle.graph_core.specs.Graphs.{HasEdge}

-- from a, each next node a successor of the one before, to b
abbrev pub Leads : List (List ℕ) → ℕ → List ℕ → ℕ → Type 0
Leads g a [] b = a ≡ b
Leads g a (c ∷ rest) b = HasEdge g a c × Leads g c rest b

-- no number stands in the list twice
abbrev pub IsWithoutRepeat : List ℕ → Type 0
IsWithoutRepeat [] = Unit {0}
IsWithoutRepeat (a ∷ rest) = (Contains rest a → ⊥) × IsWithoutRepeat rest

-- A path from a to b: a and the nodes after it, of which none is there twice.
pub record IsPath (g : List (List ℕ)) (a : ℕ) (rest : List ℕ) (b : ℕ) : Type 0 where
  pub leads : Leads g a rest b
  pub no_repeat : IsWithoutRepeat (a ∷ rest)

-- a path leads from a to b
abbrev pub Reaches : List (List ℕ) → ℕ → ℕ → Type 0
Reaches g a b = (rest : List ℕ) × IsPath g a rest b

-- compared number by number, the first list comes first, or they are equal
abbrev pub IsNotAfter : List ℕ → List ℕ → Type 0
IsNotAfter [] ys = Unit {0}
IsNotAfter (x ∷ xs) [] = ⊥
IsNotAfter (x ∷ xs) (y ∷ ys) = (x < y) ⊎ ((x ≡ y) × IsNotAfter xs ys)

-- The first path from the root to a node: of all paths to it, compared node by node.
pub record IsFirstPath (g : List (List ℕ)) (root : ℕ) (rest : List ℕ) (b : ℕ) : Type 0 where
  pub path : IsPath g root rest b
  pub first : (other : List ℕ) → IsPath g root other b → IsNotAfter rest other

-- h lies on the first path from the root to b
abbrev pub LiesOnFirstPath : List (List ℕ) → ℕ → ℕ → ℕ → Type 0
LiesOnFirstPath g root h b = (rest : List ℕ) × IsFirstPath g root rest b × Contains (root ∷ rest) h
