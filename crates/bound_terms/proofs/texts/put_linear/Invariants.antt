use Rattle.std.proofs.Common.{◌≡◌, ◌++◌, true, drop}
use Rattle.bound_terms.specs.Texts.{parts_from}
use Rattle.bound_terms.specs.inside.Writing.{sum_behind}
use Rattle.bound_terms.proofs.texts.put_linear.Given as goal

abbrev pub invariant-loop-v : goal.invariant-loop-v
invariant-loop-v l =
    l.out.items ++ sum_behind l.is_first (parts_from l.v (drop l.v l.coefficients) l.expression.constant)
    ≡ l.initial.out.items ++ sum_behind true (parts_from 0 l.coefficients l.expression.constant)
