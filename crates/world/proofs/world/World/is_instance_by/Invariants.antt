use Rattle.std.proofs.Common.{◌≡◌, ◌-◌}
use Rattle.world.specs.Instances.{is_instance_by}
use Rattle.world.proofs.world.World.is_instance_by.Given as goal

abbrev pub invariant-loop : goal.invariant-loop
invariant-loop l = is_instance_by l.self l.brackets l.class l.of ≡ is_instance_by l.self (l.brackets - l.counter) l.a l.b
