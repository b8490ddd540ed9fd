use Rattle.entries.proofs.Law.{good_are_handed}
use Rattle.entries.proofs.laws.good_arguments_are_handed.Goals as goal

pub returns : goal.returns
returns c = good_are_handed
