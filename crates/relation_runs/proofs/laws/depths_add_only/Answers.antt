use Rattle.relation_runs.proofs.Depths.{passes_up, spends_up, leads_up}
use Rattle.relation_runs.proofs.laws.depths_add_only.Goals as goal

pub returns-clause-passes : goal.returns-clause-passes
returns-clause-passes c = λ ways h k n v a le p. passes_up ways h k le n v a p

pub returns-clause-spends : goal.returns-clause-spends
returns-clause-spends c = λ ways h k n v a le p. spends_up ways h k le n v a p

pub returns-clause-leads : goal.returns-clause-leads
returns-clause-leads c = λ ways ends h k n v exit w le p. leads_up ways ends h k le n v exit w p
