use Rattle.relation_runs.specs.Passing.{PassesBelow, SpendsBelow}
use Rattle.relation_runs.proofs.Prefixes.{pass_joins, spend_joins}
use Rattle.relation_runs.proofs.laws.items_are_joined.Goals as goal

pub returns-clause-passes : goal.returns-clause-passes
returns-clause-passes c = λ ways h zs front back a. pass_joins (PassesBelow ways h) zs front back a

pub returns-clause-spends : goal.returns-clause-spends
returns-clause-spends c = λ ways h zs front back a. spend_joins (PassesBelow ways h) (SpendsBelow ways h) zs front back a
