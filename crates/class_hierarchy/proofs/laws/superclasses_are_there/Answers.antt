use Rattle.class_hierarchy.proofs.WellBuilt.{super_there}
use Rattle.class_hierarchy.proofs.laws.superclasses_are_there.Goals as goal

pub returns : goal.returns
returns c = super_there
