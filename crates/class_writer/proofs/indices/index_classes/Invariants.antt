use Rattle.std.proofs.Common.{◌≤◌, suc, drop, length}
use Rattle.class_writer.specs.Writing.{class_name_of}
use Rattle.class_writer.specs.Indexing.{HasFirst}
use Rattle.class_writer.proofs.indices.index_classes.Given as goal

abbrev pub invariant-loop-index : goal.invariant-loop-index
invariant-loop-index l = l.index ≤ length l.slots × HasFirst (class_name_of l.pool) (suc l.index) (drop l.index l.slots) l.classes

abbrev pub decreases-loop-index : goal.decreases-loop-index
decreases-loop-index l = l.index
