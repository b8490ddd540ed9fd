use Rattle.std.proofs.Common.{◌≡◌, ◌++◌, drop}
use Rattle.null_flow.proofs.effects.add_all.Given as goal

abbrev pub invariant-loop-flag : goal.invariant-loop-flag
invariant-loop-flag l = l.flags.items ++ drop l.flag-index l.some ≡ l.initial.flags.items ++ l.some
