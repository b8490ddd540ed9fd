use Rattle.std.proofs.Common.{refl}
use Rattle.graph_core.proofs.Marks.{lies_false}
use Rattle.plain_graphs.proofs.ordering.is_there.Goals as goal

pub returns-then-not-is_lowest_chosen : goal.returns-then-not-is_lowest_chosen
returns-then-not-is_lowest_chosen c =
    (λ t low. absurd (lies_false _ c.if-not-is_lowest_chosen.true c.is_lowest_chosen.ensures low), λ h. refl)

pub returns : goal.returns
returns c =
    (λ t low. c.has.ensures.0 t, λ h. c.has.ensures.1 (h (c.is_lowest_chosen.ensures.0 c.if-not-is_lowest_chosen.false)))
