use Rattle.relation_runs.specs.Passing.{PassesBelow, SpendsBelow}
use Rattle.relation_runs.proofs.Replaced.{pass_same, spend_same, agrees_everywhere}
use Rattle.relation_runs.proofs.laws.same_values.Goals as goal

pub returns-clause-passes : goal.returns-clause-passes
returns-clause-passes c = λ ways h xs ys items a same p. pass_same (PassesBelow ways h) xs ys items a (agrees_everywhere xs ys same items) p

pub returns-clause-spends : goal.returns-clause-spends
returns-clause-spends c = λ ways h xs ys items a same p. spend_same (PassesBelow ways h) (SpendsBelow ways h) xs ys items a (agrees_everywhere xs ys same items) p
