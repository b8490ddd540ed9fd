use Rattle.std.proofs.Common.{arith}
use Rattle.std.specs.Prelude.{option_map}
use Rattle.class_writer.specs.Writing.{class_name_of}
use Rattle.class_writer.proofs.Stepping.{index_more}
use Rattle.class_writer.proofs.indices.index_classes.Goals as goal

pub loop-index-preserved : goal.loop-index-preserved
loop-index-preserved c =
    let slots = c.entries-slots.result.now in
    let slot = c.index-slots-index.result in
    let name = option_map (λ text. text.now) c.class_name_of-name.result in
    (omega arith, index_more (class_name_of c.args.pool.now) slots c.loop-index.index slot name c.loop-index.classes c.note.new.table c.loop-index-test.true c.loop-index.invariant.0 c.index-slots-index.is c.class_name_of-name.ensures c.loop-index.invariant.1 c.in_ok-note.ensures)
