use Rattle.nested_runs.proofs.Nests.{nest_of_steps, steps_of_nest}
use Rattle.nested_runs.proofs.laws.nests_are_steps.Goals as goal

pub returns : goal.returns
returns c = λ n stack cost. (λ nest. steps_of_nest nest, λ steps. nest_of_steps steps)
