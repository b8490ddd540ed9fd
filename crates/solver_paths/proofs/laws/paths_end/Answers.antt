use Rattle.solver_paths.proofs.Returns.{keys_rule, path_short}
use Rattle.solver_paths.proofs.laws.paths_end.Goals as goal

pub returns : goal.returns
returns c = λ rows first last ps goes. record { ruler = keys_rule rows first last ps goes; short = path_short rows first last ps goes }
