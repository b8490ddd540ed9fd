use Rattle.std.proofs.Common.{refl}
use Rattle.graph_core.proofs.Marks.{lies_false}
use Rattle.plain_graphs.proofs.nesting.is_also_inside.Goals as goal

pub returns-then-not-is_inside : goal.returns-then-not-is_inside
returns-then-not-is_inside c = (λ t i. absurd (lies_false _ c.if-not-is_inside.true c.is_inside.ensures i), λ h. refl)

pub returns : goal.returns
returns c =
    (λ t i. c.is_inside-2.ensures.0 t, λ h. c.is_inside-2.ensures.1 (h (c.is_inside.ensures.0 c.if-not-is_inside.false)))
