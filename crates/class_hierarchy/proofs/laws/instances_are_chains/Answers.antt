use Rattle.class_hierarchy.proofs.Instances.{instance_below}
use Rattle.class_hierarchy.proofs.laws.instances_are_chains.Goals as goal

pub returns : goal.returns
returns c = instance_below
