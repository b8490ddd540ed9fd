use Rattle.class_hierarchy.specs.Names.{noted}
use Rattle.class_hierarchy.proofs.Counts.{numbered}
use Rattle.class_hierarchy.proofs.classes.Classes.of.Goals as goal

pub invariant_of-result : goal.invariant_of-result
invariant_of-result c = numbered c.in_ok-object.object c.args.files.items (noted c.in_ok-names.names) c.in_ok-object.ensures c.requires (cc) (rw c.deref-2.ensures.value at c.in_ok-names.ensures)
