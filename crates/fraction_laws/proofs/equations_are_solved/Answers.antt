use Rattle.fraction_laws.proofs.Same.{solved, unsolved}
use Rattle.fraction_laws.proofs.equations_are_solved.Goals as goal

pub returns-clause-there : goal.returns-clause-there
returns-clause-there c = λ r e o p k h unit other is. (solved r e o p k h (record { is = unit }) (record { is = other }) (record { is = is })).is

pub returns-clause-back : goal.returns-clause-back
returns-clause-back c = λ r e o p k h unit other is. (unsolved r e o p k h (record { is = unit }) (record { is = other }) (record { is = is })).is
