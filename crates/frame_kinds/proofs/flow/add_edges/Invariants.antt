use Rattle.std.proofs.Common.{◌≡◌, ◌++◌, map, drop}
use Rattle.frame_kinds.proofs.flow.add_edges.Given as goal

abbrev pub invariant-loop-to : goal.invariant-loop-to
invariant-loop-to l =
    l.edges.items ++ map (λ x. record { from = l.instruction.pc; action = l.action; to = x }) (drop l.to-index l.instruction.successors)
    ≡ l.initial.edges.items ++ map (λ x. record { from = l.instruction.pc; action = l.action; to = x }) l.instruction.successors
