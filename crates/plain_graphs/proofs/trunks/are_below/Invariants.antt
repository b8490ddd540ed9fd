use Rattle.std.proofs.Common.{ℕ, ◌<◌, get_or}
use Rattle.graph_core.specs.Loops.{IsBelow}
use Rattle.plain_graphs.proofs.trunks.are_below.Given as goal

abbrev pub invariant-loop-x : goal.invariant-loop-x
invariant-loop-x l = (k : ℕ) → k < l.x-index → IsBelow l.p.graph.now l.p.root l.h (get_or l.xs k 0)
