use Rattle.world.proofs.There.{selected_there}
use Rattle.world.proofs.world.World.selected.Goals as goal

pub returns-in_ok-method-in-Some-clause-there : goal.returns-in_ok-method-in-Some-clause-there
returns-in_ok-method-in-Some-clause-there c =
    selected_there c.args.self.now c.args.m c.in-Some.class c.in_ok-method-in-Some.method c.in-Some.ensures.bound c.requires c.in_ok-method-in-Some.ensures
