use Rattle.relation_runs.specs.Passing.{PassesBelow, SpendsBelow}
use Rattle.relation_runs.proofs.Replaced.{pass_after, pass_before, spend_after, spend_before}
use Rattle.relation_runs.proofs.laws.replaced_items.Goals as goal

pub returns-clause-passes : goal.returns-clause-passes
returns-clause-passes c = λ ways h next f zs items a. (λ p. pass_after next f zs (PassesBelow ways h) items a p, λ p. pass_before next f zs (PassesBelow ways h) items a p)

pub returns-clause-spends : goal.returns-clause-spends
returns-clause-spends c = λ ways h next f zs items a.
    (λ p. spend_after next f zs (PassesBelow ways h) (SpendsBelow ways h) items a p, λ p. spend_before next f zs (PassesBelow ways h) (SpendsBelow ways h) items a p)
