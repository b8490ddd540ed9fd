-- What is known of the blocks of code, and of loops and regions where no loop is entered but at its entry.
use Rattle.std.specs.Prelude.{◌≡◌, ℕ, Option, List, ◌∷◌, Contains}
use Rattle.graph_core.specs.Graphs.{HasEdge}
use Rattle.graph_core.specs.Paths.{Reaches}
use Rattle.graph_core.specs.Loops.{IsInLoop, IsAlsoEntered}
use Rattle.code_blocks.specs.declared.instruction.Block.{Block}
use Rattle.method_body.specs.Bodies.{MethodBody, IsBody}
use Rattle.loop_cut.specs.declared.point.Point.{Point}
use Rattle.loop_cut.specs.declared.found.CodeLoop.{CodeLoop}
use Rattle.loop_cut.specs.BlockGraph.{IsBlockGraph}
use Rattle.loop_cut.specs.CodeLoops.{IsCut}
use Rattle.loop_cut.specs.Regions.{IsPointIn, Walks, AreOnce}

abbrev pub HasOneEntries : List (List ℕ) → ℕ → Type 0
HasOneEntries g root = (h x : ℕ) → IsAlsoEntered g root h x → ⊥

-- the start reaches each block
abbrev pub BlocksAreReached : Type 0
BlocksAreReached =
    (body : MethodBody) (g : List (List ℕ)) (b : Block) → IsBody body → IsBlockGraph body g → Contains body.blocks b
    → Reaches g 0 b.pc

-- an edge into a loop, from outside, leads to its entry
abbrev pub LoopsAreEnteredAtEntries : Type 0
LoopsAreEnteredAtEntries =
    (body : MethodBody) (g : List (List ℕ)) (h x y : ℕ) → IsBody body → IsBlockGraph body g → HasOneEntries g 0
    → HasEdge g x y → (IsInLoop g 0 h x → ⊥) → IsInLoop g 0 h y → y ≡ h

-- an edge out of a loop leads to one of its exits
abbrev pub LoopsAreLeftToExits : Type 0
LoopsAreLeftToExits =
    (body : MethodBody) (heights : List ℕ) (g : List (List ℕ)) (l : CodeLoop) (x y : ℕ) → IsCut body heights g l
    → IsInLoop g 0 l.entry x → HasEdge g x y → (IsInLoop g 0 l.entry y → ⊥) → Contains l.exits y

-- a walk in a region, each loop inside one point, that doesn't come to the region's entry comes to no point twice
abbrev pub WalksRepeatNothing : Type 0
WalksRepeatNothing =
    (body : MethodBody) (g : List (List ℕ)) (region : Option ℕ) (p : Point) (rest : List Point) → IsBody body
    → IsBlockGraph body g → HasOneEntries g 0 → IsPointIn g 0 region p → Walks g 0 region p rest → AreOnce (p ∷ rest)
