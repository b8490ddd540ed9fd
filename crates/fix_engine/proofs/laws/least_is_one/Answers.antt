use Rattle.fix_engine.proofs.laws.least_is_one.Goals as goal

pub returns : goal.returns
returns g c =
    λ s t least other k l. let law = g.met.F.Flow.lawful c.args.flow.now in
    (law.ordered k l).antisymmetric _ _ (least.solution.facts k l) (other.solution.facts k l) (least.least t other.solution k l) (other.least s least.solution k l)
