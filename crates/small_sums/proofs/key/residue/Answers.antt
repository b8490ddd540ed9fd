use Rattle.std.proofs.Common.{arith}
use Rattle.std.proofs.lemmas.Int.{ints}
use Rattle.small_sums.proofs.Residues.{opposite_residue}
use Rattle.small_sums.proofs.key.residue.Goals as goal

pub returns-else-number-ge0 : goal.returns-else-number-ge0
returns-else-number-ge0 c = opposite_residue c.args.number _ c.low-else-number-ge0.result c.low-else-number-ge0.ensures (omega (arith, ints, c.if-number-ge0.false, c.ranges.number))
