use Rattle.std.proofs.Common.{◌≡◌, ◌++◌, flat_map}
use Rattle.std.specs.List.{zip}
use Rattle.null_facts.specs.Program.{edges_in}
use Rattle.null_facts.proofs.building.edges.Given as goal

abbrev pub invariant-loop-first : goal.invariant-loop-first
invariant-loop-first l =
    l.edges.items ++ flat_map (edges_in l.firsts) (zip l.first-iterator.a.rest.now l.first-iterator.b.rest.now) ≡ flat_map (edges_in l.firsts) (zip l.firsts l.methods)
