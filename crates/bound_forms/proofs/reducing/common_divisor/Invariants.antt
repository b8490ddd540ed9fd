use Rattle.std.proofs.Common.{◌≡◌, ◌≤◌, drop}
use Rattle.bound_forms.specs.Lowest.{common_divisor}
use Rattle.bound_forms.proofs.reducing.common_divisor.Given as goal

abbrev pub invariant-loop-c : goal.invariant-loop-c
invariant-loop-c l = (common_divisor l.divisor (drop l.c-index l.coefficients) ≡ common_divisor l.d l.coefficients) × (1 ≤ l.divisor) × (l.divisor ≤ l.d)
