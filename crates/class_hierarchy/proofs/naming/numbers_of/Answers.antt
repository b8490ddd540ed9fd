use Rattle.std.proofs.Common.{ap, ◌∙◌}
use Rattle.class_reader.specs.declared.class.ClassRecord.{ClassRecord}
use Rattle.class_hierarchy.specs.Names.{noted}
use Rattle.class_hierarchy.proofs.Names.{numbers_first, numbers_file}
use Rattle.class_hierarchy.proofs.naming.numbers_of.Goals as goal

pub loop-i-init : goal.loop-i-init
loop-i-init c = numbers_first c.args.object.now c.as_slice.result.now c.new-names.result (noted c.note.new.names) c.new-names.ensures.empty c.as_slice.ensures c.in_ok-note.ensures

pub loop-i-preserved : goal.loop-i-preserved
loop-i-preserved c =
    numbers_file c.args.object.now c.args.files.now c.loop-i.i c.index-files-i.result c.as_slice-in-loop-i.result.now (noted c.loop-i.names) (noted c.note-in-loop-i.new.names) c.loop-i-test.true c.index-files-i.is
    (c.as_slice-in-loop-i.ensures ∙ ap (λ (r : ClassRecord). r.name) c.record.ensures.same) c.loop-i.invariant c.in_ok-note-2.ensures
