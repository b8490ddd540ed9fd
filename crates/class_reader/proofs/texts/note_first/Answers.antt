use Rattle.std.proofs.Common.{◌≡◌, Some, false, sym}
use Rattle.std.specs.Prelude.{is_some}
use Rattle.std.proofs.lemmas.Map.Text.{btree_map_updates_str}
use Rattle.class_reader.specs.TextTable.{first_in}
use Rattle.class_reader.proofs.TextTables.{notes_first}
use Rattle.class_reader.proofs.texts.note_first.Goals as goal

pub returns-in_ok-insert : goal.returns-in_ok-insert
returns-in_ok-insert c =
    let text = c.in-Some.text.now in
    let absent : is_some (first_in c.args.firsts.now text) ≡ false = cc in
    rw (sym c.in-Some.ensures)
    (notes_first text c.args.at (first_in c.args.firsts.now) (first_in c.insert.new.self) absent (btree_map_updates_str text c.args.firsts.now c.insert.new.self (Some c.args.at) c.in_ok-insert.ensures.updates))
