use Rattle.solver_paths.proofs.Contradictions.{contradicts}
use Rattle.solver_paths.proofs.laws.contradictions_hold.Goals as goal

pub returns : goal.returns
returns c = λ rows m p. contradicts p.dictionary p.stuck p.multipliers p.certified
