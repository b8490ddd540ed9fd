use Rattle.std.proofs.Common.{◌≡◌, ◌⊎◌, ℕ, ◌<◌, Contains}
use Rattle.graph_core.specs.Paths.{Reaches}
use Rattle.graph_order.specs.CalleesFirst.{IsLowestChosen}
use Rattle.plain_graphs.proofs.ordering.are_before.Given as goal

abbrev pub invariant-loop-w : goal.invariant-loop-w
invariant-loop-w l =
    (k : ℕ) → k < l.w → IsLowestChosen l.g l.chosen k → Reaches l.g l.v k → (k ≡ l.v) ⊎ Contains l.before k
