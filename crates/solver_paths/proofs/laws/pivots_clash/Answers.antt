use Rattle.solver_paths.proofs.Clashes.{clash}
use Rattle.solver_paths.proofs.laws.pivots_clash.Goals as goal

pub returns : goal.returns
returns c = clash
