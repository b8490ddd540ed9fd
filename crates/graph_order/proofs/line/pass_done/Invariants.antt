use Rattle.std.proofs.Common.{ℕ, ◌<◌, ◌≤◌, get_or}
use Rattle.graph_core.specs.Marked.{IsMarked}
use Rattle.graph_order.proofs.line.pass_done.Given as goal

abbrev pub invariant-loop-i : goal.invariant-loop-i
invariant-loop-i l = (k : ℕ) → l.next ≤ k → k < l.i → IsMarked l.done (get_or l.callees k 0)
