use Rattle.std.proofs.Common.{◌≡◌, length}
use Rattle.kind_cases.proofs.loops.heights.Given as goal

abbrev pub invariant-loop-i : goal.invariant-loop-i
invariant-loop-i l = length l.found.items ≡ l.i-index
