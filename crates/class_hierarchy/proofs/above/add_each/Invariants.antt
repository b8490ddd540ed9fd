use Rattle.std.proofs.Common.{◌++◌, take}
use Rattle.std.specs.List.{flat_map}
use Rattle.class_hierarchy.specs.Tables.{SameFirst, with_above, IsClosed}
use Rattle.class_hierarchy.proofs.above.add_each.Given as goal

abbrev pub invariant-loop-class : goal.invariant-loop-class
invariant-loop-class l = SameFirst l.found.keys (l.fn.found.keys ++ flat_map (with_above l.classes) (take l.class-index l.among)) × IsClosed l.classes l.found.keys
