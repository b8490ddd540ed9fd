use Rattle.relation_runs.proofs.Prefixes.{spent_prefix, prefix_spent}
use Rattle.relation_runs.proofs.laws.spent_is_a_prefix.Goals as goal

pub returns : goal.returns
returns c = λ ways h zs items a. (λ p. spent_prefix ways h zs items a p, λ p. prefix_spent ways h zs items a p)
