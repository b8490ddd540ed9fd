use Rattle.std.proofs.Common.{inl, inr}
use Rattle.relation_runs.specs.Passing.{PassesBelow, SpendsBelow}
use Rattle.relation_runs.proofs.Items.{pass_spends, spend_front}
use Rattle.relation_runs.proofs.Depths.{passes_spends}
use Rattle.relation_runs.proofs.laws.passed_is_spent.Goals as goal

pub returns-clause-nodes : goal.returns-clause-nodes
returns-clause-nodes c = λ ways h n v a p. passes_spends ways h n v a p

pub returns-clause-fronts : goal.returns-clause-fronts
returns-clause-fronts c = λ ways h zs front back a p. elim p [
  | inl q ↦ spend_front (PassesBelow ways h) (SpendsBelow ways h) zs front back a (pass_spends (PassesBelow ways h) (SpendsBelow ways h) zs front a q)
  | inr q ↦ spend_front (PassesBelow ways h) (SpendsBelow ways h) zs front back a q
]
