use Rattle.program_places.proofs.Programs.{closed}
use Rattle.program_places.proofs.laws.programs_are_closed.Goals as goal

pub returns : goal.returns
returns c = closed
