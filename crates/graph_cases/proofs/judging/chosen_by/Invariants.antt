use Rattle.std.proofs.Common.{◌≡◌, length}
use Rattle.graph_cases.proofs.judging.chosen_by.Given as goal

abbrev pub invariant-loop-x : goal.invariant-loop-x
invariant-loop-x l = length l.chosen.items ≡ l.nodes
