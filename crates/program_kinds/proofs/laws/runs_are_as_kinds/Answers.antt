use Rattle.program_kinds.proofs.Moments.{runs_are_as_kinds}
use Rattle.program_kinds.proofs.laws.runs_are_as_kinds.Goals as goal

pub returns : goal.returns
returns c = runs_are_as_kinds
