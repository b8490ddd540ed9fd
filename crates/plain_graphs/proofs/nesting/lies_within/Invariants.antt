use Rattle.std.proofs.Common.{ℕ, ◌<◌}
use Rattle.graph_core.specs.Loops.{IsInLoop}
use Rattle.plain_graphs.proofs.nesting.lies_within.Given as goal

abbrev pub invariant-loop-x : goal.invariant-loop-x
invariant-loop-x l =
    (y : ℕ) → y < l.x → IsInLoop l.p.graph.now l.p.root l.h y → IsInLoop l.p.graph.now l.p.root l.k y
