use Rattle.std.proofs.Common.{◌<◌, ℕ, pos, get_or}
use Rattle.q128.specs.Fraction.{whole, IsSame}
use Rattle.lin_rows.specs.Linear.{coefficient_of}
use Rattle.lin_rows.proofs.comb.Comb.has_coefficients.Given as goal

abbrev pub invariant-loop-i : goal.invariant-loop-i
invariant-loop-i l = (v : ℕ) → v < l.i → IsSame (get_or l.self.coefficients v (whole (pos 0))) (whole (coefficient_of l.goal v))
