use Rattle.std.proofs.Common.{◌≡◌, ◌++◌}
use Rattle.kind_frames.specs.Frames.{all_joined}
use Rattle.kind_frames.proofs.slots.joined_each.Given as goal

abbrev pub invariant-loop-a : goal.invariant-loop-a
invariant-loop-a l = l.kinds.items ++ all_joined l.a-iterator.a.rest.now l.a-iterator.b.rest.now ≡ all_joined l.some l.others
