use Rattle.std.proofs.Common.{ℕ, ◌<◌}
use Rattle.machine_cases.specs.Closed.{HoldsValues}
use Rattle.machine_cases.proofs.lengths.is_closed.Given as goal

abbrev pub invariant-loop-number : goal.invariant-loop-number
invariant-loop-number l = (a : ℕ) → a < l.number → HoldsValues l.heap a
