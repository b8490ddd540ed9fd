use Rattle.program_kinds.proofs.Moments.{moments_are_as_kinds}
use Rattle.program_kinds.proofs.laws.moments_are_as_kinds.Goals as goal

pub returns : goal.returns
returns c = moments_are_as_kinds
