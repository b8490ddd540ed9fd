use Rattle.relations.proofs.Faults.{spend_steps}
use Rattle.relations.proofs.walk.spend_terms.Goals as goal

pub returns-clause-steps : goal.returns-clause-steps
returns-clause-steps c = λ nodes sizes made n. spend_steps nodes sizes made c.args.count n c.within.result c.within.ensures
