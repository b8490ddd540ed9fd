use Rattle.std.proofs.Common.{◌≡◌, drop}
use Rattle.relations.specs.Scope.{lin_bound, coefficients_bound}
use Rattle.relations.specs.inside.Walk.{made_of}
use Rattle.relations.proofs.walk.are_known.Given as goal

abbrev pub invariant-loop-v : goal.invariant-loop-v
invariant-loop-v l = lin_bound l.sizes (made_of l.marks) l.lin ≡ coefficients_bound l.sizes (made_of l.marks) l.v (drop l.v l.lin.coefficients)
