use Rattle.std.proofs.Common.{sym, ◌∙◌}
use Rattle.world.proofs.Instancing.{array_tests}
use Rattle.world.proofs.world.World.is_array_of.Goals as goal

pub returns : goal.returns
returns c = c.is_array_by-is_one.ensures ∙ sym (array_tests c.args.self.now c.args.element.now c.args.of.now)
