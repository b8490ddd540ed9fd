use Rattle.class_hierarchy.proofs.WellBuilt.{above_whole}
use Rattle.class_hierarchy.proofs.laws.interfaces_are_whole.Goals as goal

pub returns : goal.returns
returns c = above_whole
