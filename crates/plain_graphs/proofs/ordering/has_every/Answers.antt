use Rattle.std.proofs.Common.{◌≤◌, length, refl, below_more, arith}
use Rattle.graph_core.proofs.Marks.{lies_false}
use Rattle.plain_graphs.proofs.Calls.{chosen_below}
use Rattle.plain_graphs.proofs.ordering.has_every.Goals as goal

pub returns-then-not-is_there : goal.returns-then-not-is_there
returns-then-not-is_there c =
    (λ t. absurd (cc), λ h. absurd (lies_false _ c.if-not-is_there.true c.is_there.ensures (h c.loop-v.v)))

pub loop-v-preserved : goal.loop-v-preserved
loop-v-preserved c = below_more _ _ c.loop-v.invariant (c.is_there.ensures.0 c.if-not-is_there.false)

pub returns : goal.returns
returns c =
    let all : length c.args.chosen.now ≤ c.loop-v.v = omega (arith, c.nodes-v-end.ensures.value, c.loop-v-test.false, c.requires.chosen) in
    (λ t v low. c.loop-v.invariant v (chosen_below c.args.g.now c.args.chosen.now v c.loop-v.v all low) low, λ h. refl)
