use Rattle.std.proofs.Common.{◌≡◌, ◌++◌, flat_map}
use Rattle.std.specs.List.{zip}
use Rattle.null_facts.specs.Program.{edges_at, edges_in}
use Rattle.null_facts.proofs.building.add_edges.Given as goal

abbrev pub invariant-loop-instruction : goal.invariant-loop-instruction
invariant-loop-instruction l =
    l.edges.items ++ flat_map (edges_at l.firsts l.method.body.now l.first) (zip l.instruction-iterator.a.rest.now l.instruction-iterator.b.rest.now)
    ≡ l.initial.edges.items ++ edges_in l.firsts (l.first, l.method)
