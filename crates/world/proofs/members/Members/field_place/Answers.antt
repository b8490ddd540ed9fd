use Rattle.std.proofs.Common.{◌∙◌}
use Rattle.common_laws.proofs.Positions.{position_map}
use Rattle.world.specs.Members.{field_key, is_keyed}
use Rattle.world.proofs.members.Members.field_place.Goals as goal

pub returns-clause-place : goal.returns-clause-place
returns-clause-place c =
    (rw c.as_slice.ensures at c.place_of.ensures)
    ∙ position_map field_key (is_keyed c.args.name.now c.args.desc.now) c.args.class.now.fields
