use Rattle.std.specs.Prelude.{FitsSigned}
use Rattle.std.specs.Int.{w128}
use Rattle.std.proofs.lemmas.Int.{to_z-of_z}
use Rattle.q128.proofs.Lowest.{IsQ-whole}
use Rattle.q128.proofs.q.Q.whole.Goals as goal

pub invariant_of-result : goal.invariant_of-result
invariant_of-result c =
    let fit : FitsSigned w128 c.args.number = c.ranges.number in
    rw to_z-of_z (IsQ-whole c.args.number)
