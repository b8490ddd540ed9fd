use Rattle.std.proofs.Common.{rules, arith}
use Rattle.fix_engine.proofs.Agendas.{IsMarked-all, Contains-below}
use Rattle.fix_engine.proofs.agenda.Agenda.all.Goals as goal

pub invariant_of-result : goal.invariant_of-result
invariant_of-result c =
    IsMarked-all c.args.edges _ _ (search rules) (omega arith) (λ k l. c.loop-edge.invariant.at k (omega arith))

pub returns-clause-listed : goal.returns-clause-listed
returns-clause-listed c =
    Contains-below c.args.edges _ (omega arith) (λ k l. c.loop-edge.invariant.at k (omega arith))
