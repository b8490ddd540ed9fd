use Rattle.small_sums.proofs.Residues.{double_residue}
use Rattle.small_sums.proofs.key.doubled.Goals as goal

pub returns : goal.returns
returns c = λ z h. double_residue z c.args.key _ h c.low.ensures
