use Rattle.std.proofs.Common.{take}
use Rattle.std.specs.List.{flat_map}
use Rattle.class_hierarchy.specs.World.{above}
use Rattle.class_hierarchy.specs.Tables.{SameFirst, IsClosed}
use Rattle.class_hierarchy.proofs.above.above_of.Given as goal

abbrev pub invariant-loop-class : goal.invariant-loop-class
invariant-loop-class l = SameFirst l.found.keys (flat_map (above l.classes) (take l.class-index l.among)) × IsClosed l.classes l.found.keys
