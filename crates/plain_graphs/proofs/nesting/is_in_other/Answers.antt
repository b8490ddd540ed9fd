use Rattle.std.proofs.Common.{refl}
use Rattle.graph_core.proofs.Marks.{lies_false}
use Rattle.plain_graphs.proofs.nesting.is_in_other.Goals as goal

pub returns-then-not-holds : goal.returns-then-not-holds
returns-then-not-holds c = (λ t w o. absurd (lies_false _ c.if-not-holds.true c.holds.ensures w), λ h. refl)

pub returns-then-k-e : goal.returns-then-k-e
returns-then-k-e c = (λ t w o. absurd (o c.if-k-e.true), λ h. refl)

pub returns : goal.returns
returns c =
    (λ t w o. c.lies_within.ensures.0 t, λ h. c.lies_within.ensures.1 (h (c.holds.ensures.0 c.if-not-holds.false) c.if-k-e.false))
