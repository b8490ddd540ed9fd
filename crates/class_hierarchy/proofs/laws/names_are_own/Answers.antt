use Rattle.class_hierarchy.proofs.WellBuilt.{own_names}
use Rattle.class_hierarchy.proofs.laws.names_are_own.Goals as goal

pub returns : goal.returns
returns c = own_names
