-- The graph of a method's blocks. Its nodes are the places of the code: a block goes by the place at which it begins, so
-- that blocks are compared by their places, and the method begins at 0.
use Rattle.std.specs.Prelude.{◌≡◌, ◌↔◌, ℕ, List, length, Contains}
use Rattle.graph_core.specs.Graphs.{HasEdge}
use Rattle.code_blocks.specs.declared.instruction.Block.{Block}
use Rattle.method_body.specs.Bodies.{MethodBody}

-- the code can go on from the block at x to that at y
abbrev pub HasWay : List Block → ℕ → ℕ → Type 0
HasWay blocks x y = (b : Block) × Contains blocks b × (b.pc ≡ x) × Contains b.successors y

pub record IsBlockGraph (body : MethodBody) (g : List (List ℕ)) : Type 0 where
  pub nodes : length g ≡ length body.code.bytes
  pub edges : (x y : ℕ) → HasEdge g x y ↔ HasWay body.blocks x y
