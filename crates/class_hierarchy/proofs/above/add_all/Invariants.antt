use Rattle.std.proofs.Common.{◌++◌, take}
use Rattle.class_hierarchy.specs.Tables.{SameFirst}
use Rattle.class_hierarchy.proofs.above.add_all.Given as goal

abbrev pub invariant-loop-class : goal.invariant-loop-class
invariant-loop-class l = SameFirst l.found.keys (l.fn.found.keys ++ take l.class-index l.classes)
