use Rattle.std.proofs.Common.{◌≡◌, ◌↔◌, ℕ, length, take}
use Rattle.graph_core.specs.Graphs.{HasEdge}
use Rattle.loop_cut.specs.BlockGraph.{HasWay}
use Rattle.loop_cut.proofs.graphs.block_graph.Given as goal

abbrev pub invariant-loop-b : goal.invariant-loop-b
invariant-loop-b l = record {
  nodes : length l.graph ≡ length l.body.code.bytes;
  edges : (x y : ℕ) → HasEdge l.graph x y ↔ HasWay (take l.b-index l.b-items) x y;
}
