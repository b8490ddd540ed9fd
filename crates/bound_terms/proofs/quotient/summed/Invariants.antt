use Rattle.std.proofs.Common.{◌≡◌, pos, drop}
use Rattle.std.specs.Prelude.{◌↔◌}
use Rattle.bound_terms.specs.Values.{SumsFit, IsSummed}
use Rattle.bound_terms.specs.inside.Running.{running}
use Rattle.bound_terms.proofs.quotient.summed.Given as goal

abbrev pub invariant-loop-i : goal.invariant-loop-i
invariant-loop-i l =
    (SumsFit l.sizes l.sum l.i (drop l.i l.coefficients) l.expression.constant ↔ IsSummed l.sizes l.expression)
    × (running l.sizes l.sum l.i (drop l.i l.coefficients) ≡ running l.sizes (pos 0) 0 l.coefficients)
