use Rattle.std.proofs.Common.{Some}
use Rattle.std.proofs.lemmas.Map.Text.{btree_map_updates_str}
use Rattle.class_writer.proofs.Stepping.{notes_one}
use Rattle.class_writer.proofs.indices.note.Goals as goal

pub returns-in_ok-insert : goal.returns-in_ok-insert
returns-in_ok-insert c =
    let text = c.in-Some.name.now in
    rw c.in-Some.is
    (notes_one text c.args.index c.args.table.now c.insert.new.self (btree_map_updates_str text c.args.table.now c.insert.new.self (Some c.args.index) c.in_ok-insert.ensures.updates))
