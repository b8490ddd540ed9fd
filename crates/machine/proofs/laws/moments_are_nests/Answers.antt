use Rattle.machine.proofs.Moments.{at_moment}
use Rattle.machine.proofs.laws.moments_are_nests.Goals as goal

pub returns : goal.returns
returns c = at_moment
