use Rattle.std.proofs.Common.{ℕ, ◌<◌}
use Rattle.graph_order.specs.CalleesFirst.{IsReady}
use Rattle.plain_graphs.proofs.ordering.is_next.Given as goal

abbrev pub invariant-loop-w : goal.invariant-loop-w
invariant-loop-w l = (k : ℕ) → k < l.w → IsReady l.g l.chosen l.before k → ⊥
