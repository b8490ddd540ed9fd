use Rattle.well_formed.proofs.Rows.{instruction_kept}
use Rattle.well_formed.proofs.laws.instructions_keep.Goals as goal

pub returns : goal.returns
returns c = instruction_kept
