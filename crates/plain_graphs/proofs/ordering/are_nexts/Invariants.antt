use Rattle.std.proofs.Common.{ℕ, ◌<◌, take, get_or}
use Rattle.graph_order.specs.CalleesFirst.{IsNext}
use Rattle.plain_graphs.proofs.ordering.are_nexts.Given as goal

abbrev pub invariant-loop-i : goal.invariant-loop-i
invariant-loop-i l = (k : ℕ) → k < l.i → IsNext l.g l.chosen (take k l.order) (get_or l.order k 0)
