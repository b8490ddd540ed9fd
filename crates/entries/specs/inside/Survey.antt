-- The heap as a graph of its numbers, and what is told of each.
use Rattle.std.specs.Prelude.{◌≡◌, ◌↔◌, ◌⊎◌, ℕ, ◌<◌, Bool, not, ◌&&◌, List, length, Contains, IsTrue, slice_index_or}
use Rattle.graph_core.specs.Graphs.{HasEdge}
use Rattle.graph_core.specs.Components.{AreTogether}
use Rattle.graph_core.specs.Paths as paths
use Rattle.class_hierarchy.specs.World.{World}
use Rattle.frames.specs.declared.value.Value.{Value}
use Rattle.frames.specs.declared.value.Value.TheVariants.{Ref}
use Rattle.entries.specs.declared.survey.Mark.{Mark}
use Rattle.entries.specs.declared.survey.Survey.{Survey}
use Rattle.frames.specs.Heap.{Cells, cell_at}
use Rattle.entries.specs.Entry.{IsHeld, values_in}

-- an edge more from a to each node whose number is among the values
pub record AddsTo (old new : List (List ℕ)) (a : ℕ) (values : List Value) : Type 0 where
  pub edges : (x y : ℕ) → HasEdge new x y ↔ (HasEdge old x y ⊎ ((x ≡ a) × Contains values (Ref y) × (y < length old)))

-- an edge for each reference to a number of the heap in what has a number below n
pub record IsGraphBelow (heap : Cells) (g : List (List ℕ)) (n : ℕ) : Type 0 where
  pub edges : (x y : ℕ) → HasEdge g x y ↔ ((x < n) × Contains (values_in (cell_at heap x)) (Ref y) × (y < length heap))

-- a node for each number of the heap, and an edge for each reference to one
pub record IsGraph (heap : Cells) (g : List (List ℕ)) : Type 0 where
  pub nodes : length g ≡ length heap
  pub edges : IsGraphBelow heap g (length heap)

-- an edge leads from the node into its own component
abbrev pub OnCycle : List (List ℕ) → ℕ → Type 0
OnCycle g b = (c : ℕ) × HasEdge g b c × AreTogether g b c

-- whether what has the number is good, and whether its references lead back to it
pub record IsMark (w : World) (heap : Cells) (g : List (List ℕ)) (b : ℕ) (mark : Mark) : Type 0 where
  pub held : IsTrue mark.held ↔ IsHeld w heap (cell_at heap b)
  pub cyclic : IsTrue mark.cyclic ↔ OnCycle g b

abbrev pub AreMarks : World → Cells → List (List ℕ) → List Mark → Type 0
AreMarks w heap g marks = (b : ℕ) (d : Mark) → b < length marks → IsMark w heap g b (slice_index_or marks b d)

-- what is told of a heap
pub record IsSurvey (w : World) (heap : Cells) (survey : Survey) : Type 0 where
  pub graph : IsGraph heap survey.graph
  pub count : length survey.marks.items ≡ length heap
  pub marks : AreMarks w heap survey.graph survey.marks.items

-- what is good, and on no cycle where none is allowed
abbrev pub passes : Bool → Mark → Bool
passes acyclic mark = mark.held && not (acyclic && mark.cyclic)

-- the number passes where the root reaches it
abbrev pub PassesAt : Bool → List (List ℕ) → List Mark → ℕ → ℕ → Type 0
PassesAt acyclic g marks root b = paths.Reaches g root b → (d : Mark) → IsTrue (passes acyclic (slice_index_or marks b d))

-- all numbers pass that the root reaches
pub record AllPass (acyclic : Bool) (g : List (List ℕ)) (marks : List Mark) (root : ℕ) : Type 0 where
  pub each : (b : ℕ) → b < length g → PassesAt acyclic g marks root b
