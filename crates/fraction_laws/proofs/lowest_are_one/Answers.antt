use Rattle.q128.proofs.Order.{lowest-unique}
use Rattle.fraction_laws.proofs.lowest_are_one.Goals as goal

pub returns : goal.returns
returns c = lowest-unique
