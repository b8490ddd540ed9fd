use Rattle.world.proofs.There.{method_from_there}
use Rattle.world.proofs.world.World.resolve_method.Goals as goal

pub returns-in_ok-method-in-Some-clause-there : goal.returns-in_ok-method-in-Some-clause-there
returns-in_ok-method-in-Some-clause-there c =
    (method_from_there c.args.self.now c.args.name.now c.args.desc.now c.in-Some.class c.in_ok-method-in-Some.method c.in-Some.ensures.bound (rw (c.as_slice.ensures, c.as_slice-in-Some.ensures) at c.in_ok-method-in-Some.ensures)).0
