use Rattle.std.proofs.Common.{length, refl, add-one}
use Rattle.std.proofs.lemmas.Option.{slice_get_read}
use Rattle.class_pool.specs.Pool.{text_of}
use Rattle.class_reader.specs.TextTable.{first_in}
use Rattle.class_reader.proofs.TextTables.{notes_one, text_here}
use Rattle.class_reader.proofs.texts.firsts_of.Goals as goal

pub loop-i-preserved : goal.loop-i-preserved
loop-i-preserved c =
    let slots = c.args.slots.now in
    let slot = c.index-slots-i.result in
    let here = slice_get_read slots (length slots) c.loop-i.i slot refl c.loop-i-test.true c.index-slots-i.is in
    rw add-one (notes_one slots c.loop-i.i (text_of slot) (first_in c.loop-i.firsts) (first_in c.note_first.new.firsts) (text_here slots c.loop-i.i slot here) c.loop-i.invariant c.in_ok-note_first.ensures)
