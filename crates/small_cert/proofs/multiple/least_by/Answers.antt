use Rattle.std.specs.Prelude.{FitsSigned}
use Rattle.std.specs.Int.{w128}
use Rattle.std.proofs.Common.{rules}
use Rattle.std.proofs.lemmas.Int.{to_z-of_z}
use Rattle.lin_rows.specs.Rows.{lins}
use Rattle.small_cert.specs.Multiples.{times_of}
use Rattle.small_cert.proofs.Scaling.{least_made}
use Rattle.small_cert.proofs.multiple.least_by.Goals as goal

pub returns-in_ok-new-in-Some : goal.returns-in_ok-new-in-Some
returns-in_ok-new-in-Some c =
    let fits : FitsSigned w128 c.times.result = search rules in
    let made = simp to_z-of_z at (rw c.in-Some.is at c.in_ok-numbers.ensures) in
    least_made (lins c.args.index.now) c.args.coefficients.now c.in-Some.numbers.items c.deref.result.now (times_of c.args.multiple) c.times.result c.in_ok-new-in-Some.field-0 c.least-in-Some.result
    c.times.ensures made.0 made.1 c.deref.ensures.value c.in_ok-new-in-Some.ensures c.least-in-Some.ensures
