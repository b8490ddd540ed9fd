use Rattle.std.proofs.Common.{inl, inr}
use Rattle.kind_frames.specs.Frames.{all_joined}
use Rattle.kind_frames.proofs.Pointwise.{first_ended, second_ended}
use Rattle.kind_frames.proofs.slots.joined_each.Goals as goal

pub returns : goal.returns
returns c =
    let whole = all_joined c.args.some.now c.args.others.now in
    elim (c.in-None.ensures.steps) [
      | inl ended ↦ first_ended c.loop-a.kinds.items c.loop-a.a-iterator.a.rest.now c.loop-a.a-iterator.b.rest.now whole ended.1.0 c.loop-a.invariant
      | inr ended ↦ second_ended c.loop-a.kinds.items c.loop-a.a-iterator.a.rest.now c.loop-a.a-iterator.b.rest.now whole ended.1.0 c.loop-a.invariant
    ]
