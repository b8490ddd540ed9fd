-- Where the frames of runs stand among the loops of their methods' code: at a place, which lies in a block, around which
-- there are loops. (Loops with one entry: Aho, Lam, Sethi and Ullman, Compilers, 9.6.)
use Rattle.std.specs.Prelude.{◌≡◌, ℕ, zero, suc, ◌&&◌, nat_eq, nat_le, List, [], ◌∷◌, length, Contains, slice_index_or, Option, Some, None, option_and_then, find, position}
use Rattle.world.specs.declared.member.MemberId.{MemberId}
use Rattle.class_hierarchy.specs.World.{World, class_at}
use Rattle.linking.specs.Methods.{method_at}
use Rattle.code_blocks.specs.declared.instruction.Block.{Block}
use Rattle.method_body.specs.Bodies.{MethodBody, IsBody}
use Rattle.graph_loops.specs.Nesting.{Nested}
use Rattle.loop_cut.specs.declared.found.Loops.{Loops}
use Rattle.loop_cut.specs.CodeLoops.{AreLoops}
use Rattle.frames.specs.declared.here.Here.{Here}
use Rattle.loop_turns.specs.Turns.{Places}

-- ---- methods with their loops

-- a method's code with its loops, and the heights of the operand stack before each instruction
pub record CutMethod : Type 0 where
  pub body : MethodBody
  pub heights : List ℕ
  pub loops : Loops

-- they are those of the method with this number
pub record IsCutOf (w : World) (m : MemberId) (c : CutMethod) : Type 0 where
  pub class : class_at w m.class ≡ c.body.class
  pub method : method_at w m ≡ Some c.body.method
  pub is_body : IsBody c.body
  pub are_loops : AreLoops c.body c.heights c.loops

-- each listed method has its loops
abbrev pub AreAllCut : World → List MemberId → (MemberId → Option CutMethod) → Type 0
AreAllCut w methods cuts = (m : MemberId) → Contains methods m → (c : CutMethod) × (cuts m ≡ Some c) × IsCutOf w m c

-- ---- homes

-- the block inside which the instruction with this number stands
abbrev pub block_with : List Block → ℕ → Option Block
block_with blocks k = find (λ b. nat_le b.first k && nat_le k b.last) blocks

-- that of the instruction at the place
abbrev pub block_at : MethodBody → ℕ → Option Block
block_at body pc = option_and_then (block_with body.blocks) (position (λ i. nat_eq i.pc pc) body.instructions)

-- a loop, where there is one, and those around it, so many at most
abbrev pub outwards : List (Option ℕ) → ℕ → Option ℕ → List ℕ
outwards parents zero inner = []
outwards parents (suc n) None = []
outwards parents (suc n) (Some h) = h ∷ outwards parents n (slice_index_or parents h None)

-- the loops around a block, by their entries, the innermost first
abbrev pub loops_around : Nested → ℕ → List ℕ
loops_around n x = outwards n.parents (length n.loops) (slice_index_or n.innermost x None)

abbrev pub home_in : Nested → Option Block → List ℕ
home_in n None = []
home_in n (Some b) = loops_around n b.pc

abbrev pub home_at : Option CutMethod → ℕ → List ℕ
home_at None pc = []
home_at (Some c) pc = home_in c.loops.nested (block_at c.body pc)

-- the loops around the block in which a frame stands
unfoldable pub home_of : (MemberId → Option CutMethod) → Here → List ℕ
home_of cuts a = home_at (cuts a.frame.method) a.frame.pc

abbrev pub places : (MemberId → Option CutMethod) → Places Here
places cuts = record { home = λ a. home_of cuts a; place = λ a. a.frame.pc }
