use Rattle.solver_paths.proofs.Ends.{ends_exclude}
use Rattle.solver_paths.proofs.laws.ends_exclude.Goals as goal

pub returns : goal.returns
returns c = ends_exclude
