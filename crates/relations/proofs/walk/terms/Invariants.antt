use Rattle.std.proofs.Common.{◌≡◌, ◌≤◌, not, pos, count_by, take}
use Rattle.std.specs.Ordering.{int_eq}
use Rattle.relations.proofs.walk.terms.Given as goal

abbrev pub invariant-loop-v : goal.invariant-loop-v
invariant-loop-v l = record {
  is : l.total ≡ count_by (λ c. not (int_eq c (pos 0))) (take l.v l.lin.coefficients);
  small : l.total ≤ l.v;
}
