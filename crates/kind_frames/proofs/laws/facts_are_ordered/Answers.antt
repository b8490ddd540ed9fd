use Rattle.kind_frames.proofs.Lattice.{ordered}
use Rattle.kind_frames.proofs.laws.facts_are_ordered.Goals as goal

pub returns : goal.returns
returns c = ordered
