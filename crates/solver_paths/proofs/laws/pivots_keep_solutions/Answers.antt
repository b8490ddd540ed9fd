use Rattle.solver_paths.proofs.Pivoting.{pivots_keep}
use Rattle.solver_paths.proofs.laws.pivots_keep_solutions.Goals as goal

pub returns : goal.returns
returns c = pivots_keep
