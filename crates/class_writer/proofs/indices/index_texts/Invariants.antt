use Rattle.std.proofs.Common.{◌≤◌, suc, drop, length}
use Rattle.class_pool.specs.Pool.{text_of}
use Rattle.class_writer.specs.Indexing.{HasFirst}
use Rattle.class_writer.proofs.indices.index_texts.Given as goal

abbrev pub invariant-loop-index : goal.invariant-loop-index
invariant-loop-index l = l.index ≤ length l.slots × HasFirst text_of (suc l.index) (drop l.index l.slots) l.texts

abbrev pub decreases-loop-index : goal.decreases-loop-index
decreases-loop-index l = l.index
