use Rattle.std.proofs.Common.{◌≡◌, ◌↔◌, ℕ, length, take}
use Rattle.graph_core.specs.Graphs.{HasEdge}
use Rattle.code_blocks.specs.inside.Cutting.{HasWay}
use Rattle.code_blocks.proofs.reaching.graph_of.Given as goal

abbrev pub invariant-loop-i : goal.invariant-loop-i
invariant-loop-i l = record {
  nodes : length l.graph ≡ l.size;
  edges : (x y : ℕ) → HasEdge l.graph x y ↔ HasWay (take l.i-index l.instructions) x y;
}
