use Rattle.std.proofs.Common.{get_or}
use Rattle.class_hierarchy.proofs.First.{add_next, insert_same}
use Rattle.class_hierarchy.proofs.above.add_all.Goals as goal

pub loop-class-preserved : goal.loop-class-preserved
loop-class-preserved c =
    add_next c.loop-class.found.keys c.args.found.now.keys c.add.new.found.keys c.args.classes.now c.loop-class.class-index c.loop-class-test.true c.loop-class.invariant
    (insert_same c.loop-class.found.keys c.add.new.found.keys (get_or c.args.classes.now c.loop-class.class-index 0) c.in_ok-add.ensures.keys)
