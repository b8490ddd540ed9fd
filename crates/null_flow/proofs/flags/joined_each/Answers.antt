use Rattle.std.proofs.Common.{inl, inr}
use Rattle.null_flow.specs.Facts.{all_joined}
use Rattle.null_flow.specs.inside.Pointwise.{first_ended, second_ended}
use Rattle.null_flow.proofs.flags.joined_each.Goals as goal

pub returns : goal.returns
returns c =
    let whole = all_joined c.args.some.now c.args.others.now in
    elim (c.in-None.ensures.steps) [
      | inl ended ↦ first_ended c.loop-a.flags.items c.loop-a.a-iterator.a.rest.now c.loop-a.a-iterator.b.rest.now whole ended.1.0 c.loop-a.invariant
      | inr ended ↦ second_ended c.loop-a.flags.items c.loop-a.a-iterator.a.rest.now c.loop-a.a-iterator.b.rest.now whole ended.1.0 c.loop-a.invariant
    ]
