use Rattle.std.proofs.Common.{◌≡◌}
use Rattle.fix_engine.specs.Search.{IsOnTheWay, MetOrWaits, EndsWithin}
use Rattle.fix_engine.proofs.search.settle.Given as goal

abbrev pub invariant-loop-edge : goal.invariant-loop-edge
invariant-loop-edge g l =
    record {
      way : IsOnTheWay g.F.Fact.Lattice.order (g.F.Flow.problem l.flow) l.search.facts.items;
      edges : l.search.agenda.edges ≡ (g.F.Flow.problem l.flow).edges;
      met : MetOrWaits g.F.Fact.Lattice.order (g.F.Flow.problem l.flow) l.search.facts.items l.search.agenda.list;
      ends : EndsWithin g.F.Fact.Lattice.order (g.F.Flow.problem l.flow) l.readers l.search.facts.items l.search.agenda.list l.visits;
    }

abbrev pub decreases-loop-edge : goal.decreases-loop-edge
decreases-loop-edge g l = l.visits
