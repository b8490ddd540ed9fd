use Rattle.std.specs.Prelude.{FitsSigned}
use Rattle.std.specs.Int.{w128}
use Rattle.std.proofs.Common.{arith, rules}
use Rattle.std.proofs.lemmas.Int.{ints}
use Rattle.q128.specs.Fraction.{whole, IsAtMost}
use Rattle.small_sums.proofs.Best.{keeps_less}
use Rattle.small_sums.proofs.index.lesser.Goals as goal

pub returns-else-other-sum-clause-kept : goal.returns-else-other-sum-clause-kept
returns-else-other-sum-clause-kept c =
    let first : FitsSigned w128 c.in-Some.other.constant = search rules in
    let second : FitsSigned w128 c.args.sum.constant = search rules in
    let greater = c.if-other-sum.false in
    keeps_less c.args.best c.in-Some.other c.args.sum c.in-Some.is (λ (h : IsAtMost (whole c.in-Some.other.constant) (whole c.args.sum.constant)). grind (arith, ints))
