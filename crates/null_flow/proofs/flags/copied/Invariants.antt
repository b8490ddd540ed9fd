use Rattle.std.proofs.Common.{◌≡◌, ◌++◌, drop}
use Rattle.null_flow.proofs.flags.copied.Given as goal

abbrev pub invariant-loop-flag : goal.invariant-loop-flag
invariant-loop-flag l = l.copy.items ++ drop l.flag-index l.flags ≡ l.fn.flags
