use Rattle.std.proofs.Common.{◌≡◌, length}
use Rattle.graph_cases.proofs.ordering.chosen_of.Given as goal

abbrev pub invariant-loop-word : goal.invariant-loop-word
invariant-loop-word l = length l.chosen.items ≡ l.nodes
