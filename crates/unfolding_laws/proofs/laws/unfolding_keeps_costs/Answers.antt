use Rattle.unfolding_laws.proofs.Costs.{passes_there, passes_back, spends_there, spends_back}
use Rattle.unfolding_laws.proofs.laws.unfolding_keeps_costs.Goals as goal

pub returns-clause-passes : goal.returns-clause-passes
returns-clause-passes c = λ relation target direct n base v k is s at len. (
  λ p. (p.0, passes_there relation target direct is s p.0 n v k (base, at, len) p.1),
  λ p. passes_back relation target direct is s p.0 n v k (base, at, len) p.1,
)

pub returns-clause-spends : goal.returns-clause-spends
returns-clause-spends c = λ relation target direct n base v k is s at len. (
  λ p. (p.0, spends_there relation target direct is s p.0 n v k (base, at, len) p.1),
  λ p. spends_back relation target direct is s p.0 n v k (base, at, len) p.1,
)
