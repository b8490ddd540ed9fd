use Rattle.std.proofs.Common.{◌-◌, length, nat_eq}
use Rattle.std.specs.List.{list_any}
use Rattle.class_hierarchy.specs.World.{above}
use Rattle.class_hierarchy.proofs.Climbing.{Looks}
use Rattle.class_hierarchy.proofs.above.stands_above.Given as goal

abbrev pub invariant-loop : goal.invariant-loop
invariant-loop l = Looks l.classes l.other (list_any (nat_eq l.other) (above l.classes l.class)) (length l.classes - l.counter) l.at
