use Rattle.solver_paths.proofs.Twice.{never_twice}
use Rattle.solver_paths.proofs.laws.no_choice_comes_twice.Goals as goal

pub returns : goal.returns
returns c = never_twice
