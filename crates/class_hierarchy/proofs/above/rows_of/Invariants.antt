use Rattle.class_hierarchy.proofs.Ordering.{AreRowsUpTo}
use Rattle.class_hierarchy.proofs.above.rows_of.Given as goal

abbrev pub invariant-loop-class : goal.invariant-loop-class
invariant-loop-class l = AreRowsUpTo l.classes l.order l.class-index l.rows.items
