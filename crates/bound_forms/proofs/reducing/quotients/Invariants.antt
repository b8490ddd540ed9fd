use Rattle.std.proofs.Common.{◌≡◌, ◌++◌, map, drop, pos, int_div}
use Rattle.bound_forms.proofs.reducing.quotients.Given as goal

abbrev pub invariant-loop-c : goal.invariant-loop-c
invariant-loop-c l = l.quotients.items ++ map (λ c. int_div c (pos l.size)) (drop l.c-index l.coefficients) ≡ map (λ c. int_div c (pos l.size)) l.coefficients
