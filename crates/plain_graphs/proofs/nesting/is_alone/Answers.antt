use Rattle.std.proofs.Common.{refl}
use Rattle.graph_core.proofs.Marks.{lies_false}
use Rattle.plain_graphs.proofs.nesting.is_alone.Goals as goal

pub returns-then-not-holds : goal.returns-then-not-holds
returns-then-not-holds c = (λ t w. absurd (lies_false _ c.if-not-holds.true c.holds.ensures w), λ h. refl)
