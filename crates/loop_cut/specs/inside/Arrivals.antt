-- What comes to each block from the region around it.
use Rattle.std.specs.Prelude.{◌≡◌, ◌≢◌, ◌↔◌, ◌<◌, ℕ, nat_eq, Bool, true, false, List, [], ◌∷◌, ◌++◌, length, flat_map, slice_index_or, Option, Some, None, Contains, if◌then◌else◌}
use Rattle.graph_core.specs.Graphs.{successors_of}
use Rattle.graph_core.specs.Marked.{IsMarked}
use Rattle.graph_loops.specs.Nesting.{Nested}
use Rattle.code_blocks.specs.declared.instruction.Block.{Block}
use Rattle.loop_cut.specs.declared.point.Point.{Point}
use Rattle.loop_cut.specs.declared.point.Point.TheVariants as points
use Rattle.loop_cut.specs.declared.found.CodeLoop.{CodeLoop}

-- the same node, or none in both
abbrev pub is_same : Option ℕ → Option ℕ → Bool
is_same None None = true
is_same None (Some b) = false
is_same (Some a) None = false
is_same (Some a) (Some b) = nat_eq a b

abbrev pub innermost_at : Nested → ℕ → Option ℕ
innermost_at n x = slice_index_or n.innermost x None

abbrev pub parent_at : Nested → ℕ → Option ℕ
parent_at n h = slice_index_or n.parents h None

-- from the point to x, where this lies in the region
abbrev pub arrival : Nested → Option ℕ → Point → ℕ → List (ℕ × Point)
arrival n region p x = if is_same region (innermost_at n x) then (x, p) ∷ [] else []

abbrev pub from_block : List (List ℕ) → Nested → ℕ → List (ℕ × Point)
from_block g n a = flat_map (arrival n (innermost_at n a) (points.Block a)) (successors_of g a)

abbrev pub from_loop : Nested → CodeLoop → List (ℕ × Point)
from_loop n l = flat_map (arrival n (parent_at n l.entry) (points.Loop l.entry)) l.exits

abbrev pub arrivals : List (List ℕ) → Nested → List Block → List CodeLoop → List (ℕ × Point)
arrivals g n blocks loops = flat_map (λ (b : Block). from_block g n b.pc) blocks ++ flat_map (from_loop n) loops

-- two of the points come to x
pub record AreTwo (came : List (ℕ × Point)) (x : ℕ) : Type 0 where
  pub one : Point
  pub other : Point
  pub apart : one ≢ other
  pub from_one : Contains came (x, one)
  pub from_other : Contains came (x, other)

abbrev pub IsFirst : List (ℕ × Point) → ℕ → Option Point → Type 0
IsFirst came x None = (p : Point) → Contains came (x, p) → ⊥
IsFirst came x (Some p) = Contains came (x, p)

-- a point that came to each place, and marks where two did
pub record AreMet (came : List (ℕ × Point)) (size : ℕ) (found : List (Option Point)) (marks : List Bool) : Type 0 where
  pub first_count : length found ≡ size
  pub join_count : length marks ≡ size
  pub firsts : (x : ℕ) → x < size → IsFirst came x (slice_index_or found x None)
  pub joins : (x : ℕ) → x < size → IsMarked marks x ↔ AreTwo came x
