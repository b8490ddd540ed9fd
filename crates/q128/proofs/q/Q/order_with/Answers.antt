use Rattle.q128.proofs.Order.{IsQ-lowest}
use Rattle.q128.proofs.q.Q.order_with.Goals as goal

pub returns-clause-self_lowest : goal.returns-clause-self_lowest
returns-clause-self_lowest c = rw (← c.self.view_is) (IsQ-lowest c.self.inside.numerator c.self.inside.denominator c.self.invariant)

pub returns-clause-other_lowest : goal.returns-clause-other_lowest
returns-clause-other_lowest c = rw (← c.other.view_is) (IsQ-lowest c.other.inside.numerator c.other.inside.denominator c.other.invariant)
