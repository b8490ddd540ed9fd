use Rattle.std.proofs.Common.{refl, below_more, arith}
use Rattle.graph_core.proofs.Marks.{lies_false}
use Rattle.plain_graphs.proofs.Calls.{lowest_of, not_lowest}
use Rattle.plain_graphs.proofs.ordering.is_lowest_chosen.Goals as goal

pub returns-then-is_chosen_with : goal.returns-then-is_chosen_with
returns-then-is_chosen_with c =
    (λ t. absurd (cc), λ h. absurd (not_lowest c.args.g.now c.args.chosen.now c.args.v c.loop-w.w c.loop-w-test.true (c.is_chosen_with.ensures.0 c.if-is_chosen_with.true) h))

pub loop-w-preserved : goal.loop-w-preserved
loop-w-preserved c =
    below_more _ _ c.loop-w.invariant (lies_false _ c.if-is_chosen_with.false c.is_chosen_with.ensures)

pub returns : goal.returns
returns c =
    let e = c.loop-w-test.false in
    (λ t. lowest_of c.args.g.now c.args.chosen.now c.args.v c.loop-w.w (omega arith) c.if-not-chosen-v.false c.loop-w.invariant, λ h. refl)
