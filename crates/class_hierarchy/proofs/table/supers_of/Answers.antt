use Rattle.std.proofs.Common.{arith}
use Rattle.std.proofs.lemmas.Grind.{common_steps}
use Rattle.class_hierarchy.proofs.Rows.{all_supers}
use Rattle.class_hierarchy.proofs.table.supers_of.Goals as goal

pub returns : goal.returns
returns c = all_supers c.args.classes.now c.loop-class.class c.loop-class.supers.items (omega arith) (omega arith) c.loop-class.invariant.1

pub loop-class-preserved : goal.loop-class-preserved
loop-class-preserved c = grind (arith, common_steps)
