use Rattle.kind_frames.proofs.Lattice.{joins}
use Rattle.kind_frames.proofs.laws.facts_have_joins.Goals as goal

pub returns : goal.returns
returns c = joins
