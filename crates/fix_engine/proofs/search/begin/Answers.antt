use Rattle.std.proofs.Common.{◌∙◌}
use Rattle.fix_engine.proofs.Steps.{IsOnTheWay-starts, EndsWithin-starts}
use Rattle.fix_engine.proofs.search.begin.Goals as goal

pub returns-clause-way : goal.returns-clause-way
returns-clause-way g c =
    IsOnTheWay-starts g.F.Fact.Lattice.order (g.F.Flow.problem c.args.flow.now) (g.met.F.Flow.lawful c.args.flow.now) _ c.in_ok-facts.ensures.count c.in_ok-facts.ensures.starts

pub returns-clause-ends : goal.returns-clause-ends
returns-clause-ends g c =
    λ rows readers. EndsWithin-starts g.F.Fact.Lattice.order (g.F.Flow.problem c.args.flow.now) (g.met.F.Flow.lawful c.args.flow.now) rows readers _ _ (c.in_ok-agenda.ensures.count ∙ c.edges.ensures) c.in_ok-facts.ensures.starts
