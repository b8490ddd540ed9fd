use Rattle.std.proofs.Common.{ℕ, ◌<◌, Contains}
use Rattle.graph_order.specs.CalleesFirst.{IsLowestChosen}
use Rattle.plain_graphs.proofs.ordering.has_every.Given as goal

abbrev pub invariant-loop-v : goal.invariant-loop-v
invariant-loop-v l = (k : ℕ) → k < l.v → IsLowestChosen l.g l.chosen k → Contains l.order k
