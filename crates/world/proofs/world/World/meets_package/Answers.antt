use Rattle.std.proofs.Common.{◌∙◌}
use Rattle.world.proofs.Selecting.{package_first, package_none_own}
use Rattle.world.proofs.world.World.meets_package.Goals as goal

pub returns-in-Some : goal.returns-in-Some
returns-in-Some c =
    c.is_met.ensures ∙ package_first c.args.self.now c.args.name.now c.args.desc.now c.args.among.now c.in-Some.d c.in-Some.ensures

pub returns-in-None : goal.returns-in-None
returns-in-None c = package_none_own c.args.self.now c.args.name.now c.args.desc.now c.args.among.now c.in-None.ensures
