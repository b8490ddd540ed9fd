use Rattle.kind_frames.proofs.Lattice.{chains}
use Rattle.kind_frames.proofs.laws.chains_are_short.Goals as goal

pub returns : goal.returns
returns c = chains
