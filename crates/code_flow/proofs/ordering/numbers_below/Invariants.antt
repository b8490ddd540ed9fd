use Rattle.code_flow.specs.CalleeOrder.{AreBelow}
use Rattle.code_flow.proofs.ordering.numbers_below.Given as goal

abbrev pub invariant-loop-k : goal.invariant-loop-k
invariant-loop-k l = AreBelow l.k l.nodes.items
