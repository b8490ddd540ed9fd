use Rattle.solver_paths.proofs.Unique.{same_constant, same_coefficient}
use Rattle.solver_paths.proofs.laws.a_choice_has_one_dictionary.Goals as goal

pub returns : goal.returns
returns c = λ rows a b da db isa isb equal. record { constants = same_constant rows a b da db isa isb equal; coefficients = same_coefficient rows a b da db isa isb equal }
