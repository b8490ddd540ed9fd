use Rattle.std.proofs.Common.{ℕ, ◌<◌, ◌≡◌, ◌↔◌, length}
use Rattle.graph_core.specs.Marked.{IsMarked}
use Rattle.graph_core.specs.Loops.{IsInLoop}
use Rattle.plain_graphs.proofs.trunks.inside.Given as goal

abbrev pub invariant-loop-x : goal.invariant-loop-x
invariant-loop-x l =
    record {
      count : length l.marks.items ≡ l.x;
      marks : (y : ℕ) → y < l.x → IsMarked l.marks.items y ↔ IsInLoop l.p.graph.now l.p.root l.h y;
    }
