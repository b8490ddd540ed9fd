use Rattle.class_hierarchy.proofs.WellBuilt.{line_whole}
use Rattle.class_hierarchy.proofs.laws.lines_are_whole.Goals as goal

pub returns : goal.returns
returns c = line_whole
