use Rattle.relations.proofs.Faults.{restarts}
use Rattle.relations.proofs.walk.restart.Goals as goal

pub returns : goal.returns
returns c = restarts c.args.before c.args.along c.within.result c.within.ensures
