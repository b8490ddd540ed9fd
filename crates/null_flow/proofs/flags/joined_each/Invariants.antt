use Rattle.std.proofs.Common.{◌≡◌, ◌++◌}
use Rattle.null_flow.specs.Facts.{all_joined}
use Rattle.null_flow.proofs.flags.joined_each.Given as goal

abbrev pub invariant-loop-a : goal.invariant-loop-a
invariant-loop-a l = l.flags.items ++ all_joined l.a-iterator.a.rest.now l.a-iterator.b.rest.now ≡ all_joined l.some l.others
