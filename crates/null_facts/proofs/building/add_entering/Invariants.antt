use Rattle.std.proofs.Common.{◌≡◌, ◌++◌, map, drop}
use Rattle.null_facts.specs.Program.{edge_from, first_at}
use Rattle.null_facts.proofs.building.add_entering.Given as goal

abbrev pub invariant-loop-target : goal.invariant-loop-target
invariant-loop-target l =
    l.edges.items ++ map (λ t. edge_from l.body l.first l.instruction l.way (first_at l.firsts t)) (drop l.target-index l.targets)
    ≡ l.initial.edges.items ++ map (λ t. edge_from l.body l.first l.instruction l.way (first_at l.firsts t)) l.targets
