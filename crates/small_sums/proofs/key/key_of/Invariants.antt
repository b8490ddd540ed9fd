use Rattle.std.proofs.Common.{drop}
use Rattle.small_sums.specs.Keys.{digits, IsResidue}
use Rattle.small_sums.proofs.key.key_of.Given as goal

abbrev pub invariant-loop-i : goal.invariant-loop-i
invariant-loop-i l = IsResidue (digits (drop l.i l.coefficients)) l.key
