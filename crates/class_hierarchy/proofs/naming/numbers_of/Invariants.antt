use Rattle.std.proofs.Common.{◌∷◌, take}
use Rattle.class_hierarchy.specs.Names.{noted, AreNumbers}
use Rattle.class_hierarchy.proofs.naming.numbers_of.Given as goal

abbrev pub invariant-loop-i : goal.invariant-loop-i
invariant-loop-i l = AreNumbers (l.object ∷ take l.i l.files) (noted l.names)
