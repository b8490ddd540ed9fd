use Rattle.std.proofs.Common.{◌∙◌}
use Rattle.common_laws.proofs.Positions.{position_map}
use Rattle.world.specs.Members.{method_key, is_keyed}
use Rattle.world.proofs.members.Members.method_place.Goals as goal

pub returns-clause-place : goal.returns-clause-place
returns-clause-place c =
    (rw c.as_slice.ensures at c.place_of.ensures)
    ∙ position_map method_key (is_keyed c.args.name.now c.args.desc.now) c.args.class.now.methods
