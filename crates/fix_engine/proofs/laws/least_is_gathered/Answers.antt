use Rattle.fix_engine.proofs.Gathering.{IsLeast-gathered}
use Rattle.fix_engine.proofs.laws.least_is_gathered.Goals as goal

pub returns : goal.returns
returns g c =
    λ s least k l. IsLeast-gathered g.F.Fact.Lattice.order (g.F.Flow.problem c.args.flow.now) (g.met.F.Flow.lawful c.args.flow.now) s least k l
