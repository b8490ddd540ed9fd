use Rattle.std.proofs.Common.{◌≡◌, ◌+◌, ◌++◌, map, drop}
use Rattle.null_facts.specs.Program.{edge_from}
use Rattle.null_facts.proofs.building.add_onward.Given as goal

abbrev pub invariant-loop-to : goal.invariant-loop-to
invariant-loop-to l =
    l.edges.items ++ map (λ x. edge_from l.body l.first l.instruction l.way (l.first + x)) (drop l.to-index l.instruction.successors)
    ≡ l.initial.edges.items ++ map (λ x. edge_from l.body l.first l.instruction l.way (l.first + x)) l.instruction.successors
