use Rattle.well_formed.proofs.Files.{of_files}
use Rattle.well_formed.proofs.laws.worlds_are_of_files.Goals as goal

pub returns : goal.returns
returns c = of_files
