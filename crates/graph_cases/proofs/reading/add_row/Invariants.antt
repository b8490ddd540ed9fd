use Rattle.std.proofs.Common.{◌≡◌, length}
use Rattle.graph_cases.proofs.reading.add_row.Given as goal

abbrev pub invariant-loop-b : goal.invariant-loop-b
invariant-loop-b l = length l.g ≡ length l.fn.g
