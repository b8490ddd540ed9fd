use Rattle.std.specs.BTreeMap.{values}
use Rattle.world.specs.Collecting.{AreNamed, Collects}
use Rattle.world.proofs.world.World.targets_by.Given as goal

abbrev pub invariant-loop-r : goal.invariant-loop-r
invariant-loop-r l = AreNamed l.self l.found.targets.entries × Collects l.self l.class l.m l.r (values l.found.targets) l.found.fault
