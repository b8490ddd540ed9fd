use Rattle.std.proofs.Common.{arith}
use Rattle.graph_core.proofs.Rounds.{leaving_end}
use Rattle.graph_core.proofs.round.leaving.Goals as goal

pub returns : goal.returns
returns c =
    let end = c.nodes-root-end.ensures.value in
    let all = c.loop-root-test.false in
    leaving_end _ _ _ _ _ c.loop-root.invariant.round c.loop-root.invariant.rest (λ x l. c.loop-root.invariant.found x (omega arith))
