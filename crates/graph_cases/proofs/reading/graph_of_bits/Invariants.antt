use Rattle.std.proofs.Common.{◌≡◌, length}
use Rattle.graph_cases.proofs.reading.graph_of_bits.Given as goal

abbrev pub invariant-loop-a : goal.invariant-loop-a
invariant-loop-a l = length l.g ≡ l.nodes
