use Rattle.std.proofs.Common.{◌-◌, ◌++◌, length}
use Rattle.class_hierarchy.specs.World.{above}
use Rattle.class_hierarchy.proofs.Climbing.{Climbs}
use Rattle.class_hierarchy.proofs.above.add_above.Given as goal

abbrev pub invariant-loop : goal.invariant-loop
invariant-loop l = Climbs l.classes l.links l.rows (l.fn.found.keys ++ above l.classes l.class) (length l.classes - l.counter) l.at l.found.keys
