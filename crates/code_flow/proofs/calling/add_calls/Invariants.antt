use Rattle.std.proofs.Common.{take}
use Rattle.code_flow.specs.Returning.{Adds}
use Rattle.code_flow.proofs.calling.add_calls.Given as goal

abbrev pub invariant-loop-t : goal.invariant-loop-t
invariant-loop-t l = Adds l.found l.i (take l.t-index l.targets) l.fn.graph l.graph
