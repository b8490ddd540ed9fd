use Rattle.class_hierarchy.proofs.WellBuilt.{all_below}
use Rattle.world.proofs.world.World.line.Goals as goal

pub returns-clause-bound : goal.returns-clause-bound
returns-clause-bound c = all_below c.args.self.now c.args.class c.in_ok-line.line.items c.requires (rw c.self.view_is at c.in_ok-line.ensures)
