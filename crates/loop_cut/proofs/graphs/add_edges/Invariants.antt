use Rattle.std.proofs.Common.{◌≡◌, ◌⊎◌, ◌↔◌, ℕ, length, take}
use Rattle.std.specs.Prelude.{Contains}
use Rattle.graph_core.specs.Graphs.{HasEdge}
use Rattle.loop_cut.proofs.graphs.add_edges.Given as goal

abbrev pub invariant-loop-x : goal.invariant-loop-x
invariant-loop-x l = record {
  nodes : length l.graph ≡ length l.fn.graph;
  added : (x y : ℕ) → HasEdge l.graph x y ↔ (HasEdge l.fn.graph x y ⊎ ((x ≡ l.b.pc) × Contains (take l.x-index l.b.successors) y));
}
