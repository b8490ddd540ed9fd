use Rattle.std.proofs.Common.{◌≡◌, ◌≤◌, length, take}
use Rattle.bound_forms.specs.Lowest.{trimmed}
use Rattle.bound_forms.proofs.reducing.trimmed_len.Given as goal

abbrev pub invariant-loop-len : goal.invariant-loop-len
invariant-loop-len l = (l.len ≤ length l.l.coefficients) × (trimmed (take l.len l.l.coefficients) ≡ trimmed l.l.coefficients)

abbrev pub decreases-loop-len : goal.decreases-loop-len
decreases-loop-len l = l.len
