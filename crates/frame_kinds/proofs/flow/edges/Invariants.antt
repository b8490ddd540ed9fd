use Rattle.std.proofs.Common.{◌≡◌, ◌++◌, drop}
use Rattle.frame_kinds.specs.Flow.{edges_of}
use Rattle.frame_kinds.proofs.flow.edges.Given as goal

abbrev pub invariant-loop-instruction : goal.invariant-loop-instruction
invariant-loop-instruction l = l.edges.items ++ edges_of (drop l.instruction-index l.instructions) ≡ edges_of l.instructions
