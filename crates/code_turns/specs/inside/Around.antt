-- The loops around the nodes of a graph, as a relation.
use Rattle.std.specs.Prelude.{ℕ, Option, Some, None, List, [], ◌∷◌}
use Rattle.graph_core.specs.Loops.{HasLoop}
use Rattle.graph_loops.specs.Nesting.{IsInnermost, IsParent}

module _ (g : List (List ℕ)) (root : ℕ) where
  -- a loop, where there is one, and all those around it
  pub data AreFrom : Option ℕ → List ℕ → Type 0 where
    none : AreFrom None []
    more : {h : ℕ} {o : Option ℕ} {rest : List ℕ} → HasLoop g root h → IsParent g root h o → AreFrom o rest → AreFrom (Some h) (h ∷ rest)

  -- the loops around a node, the innermost first
  pub record IsAround (x : ℕ) (home : List ℕ) : Type 0 where
    pub inner : Option ℕ
    pub innermost : IsInnermost g root x inner
    pub loops : AreFrom inner home
