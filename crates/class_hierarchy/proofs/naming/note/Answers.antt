use Rattle.std.proofs.Common.{◌≡◌, false}
use Rattle.std.specs.Prelude.{is_some}
use Rattle.class_hierarchy.specs.Names.{noted}
use Rattle.class_hierarchy.proofs.Names.{notes}
use Rattle.class_hierarchy.proofs.naming.note.Goals as goal

pub returns-in_ok-insert : goal.returns-in_ok-insert
returns-in_ok-insert c =
    let absent : is_some (noted c.args.names.now c.args.name.now) ≡ false = cc in
    notes c.args.name.now c.in_ok-from_slice.field-0.items c.args.number c.args.names.now c.insert.new.self c.in_ok-from_slice.ensures.items absent c.in_ok-insert.ensures.updates
