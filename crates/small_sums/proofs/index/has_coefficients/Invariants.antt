use Rattle.std.proofs.Common.{◌<◌, ℕ, pos, get_or}
use Rattle.q128.specs.Fraction.{whole, IsSame}
use Rattle.lin_rows.specs.Linear.{coefficient_of}
use Rattle.small_sums.proofs.index.has_coefficients.Given as goal

abbrev pub invariant-loop-v : goal.invariant-loop-v
invariant-loop-v l = (k : ℕ) → k < l.v → IsSame (get_or l.sum.coefficients k (whole (pos 0))) (whole (coefficient_of l.goal k))
