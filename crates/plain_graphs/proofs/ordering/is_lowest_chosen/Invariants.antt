use Rattle.std.proofs.Common.{ℕ, ◌<◌}
use Rattle.graph_core.specs.Marked.{IsMarked}
use Rattle.graph_core.specs.Components.{AreTogether}
use Rattle.plain_graphs.proofs.ordering.is_lowest_chosen.Given as goal

abbrev pub invariant-loop-w : goal.invariant-loop-w
invariant-loop-w l = (k : ℕ) → k < l.w → AreTogether l.g l.v k × IsMarked l.chosen k → ⊥
