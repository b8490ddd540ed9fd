use Rattle.std.proofs.Common.{arith}
use Rattle.class_hierarchy.proofs.Rows.{all_links}
use Rattle.class_hierarchy.proofs.table.links_of.Goals as goal

pub returns : goal.returns
returns c = all_links c.args.classes.now c.loop-class.class c.loop-class.links.items (omega arith) (omega arith) c.loop-class.invariant.1
