use Rattle.std.proofs.Common.{sym, subst}
use Rattle.base_relations.specs.Unfolding.{Calls}
use Rattle.base_relations.specs.Direct.{CallsOf}
use Rattle.base_relations.specs.inside.Plans.{Adds}
use Rattle.base_relations.proofs.unfolding.add_base_calls.Goals as goal

pub returns-clause-edges : goal.returns-clause-edges
returns-clause-edges c =
    subst (λ rules. Adds c.args.g.now c.add_calls.new.g c.args.a (CallsOf rules)) (sym c.in-Some.is)
    (subst (λ ways. Adds c.args.g.now c.add_calls.new.g c.args.a (Calls ways)) c.as_slice.ensures c.in_ok-add_calls.ensures.edges)
