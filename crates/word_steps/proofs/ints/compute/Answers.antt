use Rattle.std.proofs.Common.{◌<◌, ◌≤◌, ◌^◌, ◌∙◌, arith, rules, w32, FitsSigned, unsigned_abs}
use Rattle.std.proofs.lemmas.Int.{wraps, to_z-of_z}
use Rattle.word_steps.proofs.Division.{quotient_wraps, size_of}
use Rattle.word_steps.proofs.ints.compute.Goals as goal

pub returns-in-Add-clause-value : goal.returns-in-Add-clause-value
returns-in-Add-clause-value c = rw c.in-Add.is (search (rules, wraps))

pub returns-in-Subtract-clause-value : goal.returns-in-Subtract-clause-value
returns-in-Subtract-clause-value c = rw c.in-Subtract.is (search (rules, wraps))

pub returns-in-Divide-clause-value : goal.returns-in-Divide-clause-value
returns-in-Divide-clause-value c =
    let first : FitsSigned w32 c.args.x = c.ranges.x in
    let second : FitsSigned w32 c.args.y = c.ranges.y in
    let whole : FitsSigned w32 c.wrapping_div.result = search rules in
    let size : unsigned_abs c.args.x ≤ 2147483648 = size_of c.args.x 2147483648 first.sfits in
    let small : unsigned_abs c.args.x < 2 ^ 32 = omega arith in
    let made = simp to_z-of_z at c.wrapping_div.ensures in
    rw c.in-Divide.is (to_z-of_z w32 c.wrapping_div.result whole ∙ made ∙ quotient_wraps w32 c.args.x c.args.y small)
