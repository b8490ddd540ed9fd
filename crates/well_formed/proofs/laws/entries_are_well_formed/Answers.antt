use Rattle.well_formed.proofs.Entered.{entry_well_formed}
use Rattle.well_formed.proofs.laws.entries_are_well_formed.Goals as goal

pub returns : goal.returns
returns c = entry_well_formed
