use Rattle.std.proofs.Common.{◌≤◌, length, refl, below_more, arith}
use Rattle.graph_core.proofs.Marks.{lies_false}
use Rattle.plain_graphs.proofs.Calls.{chosen_below}
use Rattle.plain_graphs.proofs.ordering.are_before.Goals as goal

pub returns-then-not-is_before : goal.returns-then-not-is_before
returns-then-not-is_before c =
    (λ t. absurd (cc), λ h. absurd (lies_false _ c.if-not-is_before.true c.is_before.ensures (h c.loop-w.w)))

pub loop-w-preserved : goal.loop-w-preserved
loop-w-preserved c = below_more _ _ c.loop-w.invariant (c.is_before.ensures.0 c.if-not-is_before.false)

pub returns : goal.returns
returns c =
    let all : length c.args.chosen.now ≤ c.loop-w.w = omega (arith, c.nodes-w-end.ensures.value, c.loop-w-test.false, c.requires.chosen) in
    (λ t w low reached. c.loop-w.invariant w (chosen_below c.args.g.now c.args.chosen.now w c.loop-w.w all low) low reached, λ h. refl)
