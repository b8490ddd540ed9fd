use Rattle.std.specs.Prelude.{length}
use Rattle.std.proofs.Common.{arith}
use Rattle.small_sums.proofs.Residues.{no_digits}
use Rattle.small_sums.proofs.key.key_of.Goals as goal

pub loop-i-init : goal.loop-i-init
loop-i-init c = no_digits c.args.coefficients.now (length c.args.coefficients.now) (omega arith)
