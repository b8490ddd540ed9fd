use Rattle.std.proofs.Common.{◌≡◌, drop}
use Rattle.lin_rows.specs.Combining.{terms_added}
use Rattle.lin_rows.proofs.point.add_terms.Given as goal

abbrev pub invariant-loop-i : goal.invariant-loop-i
invariant-loop-i l = terms_added l.sum (drop l.i l.coefficients) (drop l.i l.v) ≡ terms_added l.fn.x l.coefficients l.v
