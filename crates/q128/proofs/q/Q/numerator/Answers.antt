use Rattle.q128.proofs.Order.{IsQ-lowest}
use Rattle.q128.proofs.q.Q.numerator.Goals as goal

pub returns-clause-lowest : goal.returns-clause-lowest
returns-clause-lowest c = rw (← c.self.view_is) (IsQ-lowest c.self.inside.numerator c.self.inside.denominator c.self.invariant)
