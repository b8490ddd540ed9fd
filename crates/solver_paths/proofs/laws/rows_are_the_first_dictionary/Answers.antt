use Rattle.solver_paths.proofs.Starting.{rows_start}
use Rattle.solver_paths.proofs.laws.rows_are_the_first_dictionary.Goals as goal

pub returns : goal.returns
returns c = rows_start
