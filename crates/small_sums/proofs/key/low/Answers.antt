use Rattle.small_sums.proofs.Residues.{low_residue}
use Rattle.small_sums.proofs.key.low.Goals as goal

pub returns : goal.returns
returns c = low_residue c.args.number
