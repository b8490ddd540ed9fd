use Rattle.solver_paths.proofs.Rulers.{short, from_all}
use Rattle.solver_paths.proofs.laws.rulers_are_short.Goals as goal

pub returns : goal.returns
returns c = λ n ks all ruler. short n ks (from_all n ks all) ruler
