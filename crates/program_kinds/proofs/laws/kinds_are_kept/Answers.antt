use Rattle.program_kinds.proofs.Moments.{kinds_are_kept}
use Rattle.program_kinds.proofs.laws.kinds_are_kept.Goals as goal

pub returns : goal.returns
returns c = kinds_are_kept
