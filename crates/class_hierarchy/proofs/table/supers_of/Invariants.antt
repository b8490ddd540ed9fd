use Rattle.std.proofs.Common.{◌≡◌, ℕ, ◌<◌, length}
use Rattle.class_hierarchy.specs.World.{superclass}
use Rattle.class_hierarchy.specs.Tables.{super_at}
use Rattle.class_hierarchy.proofs.table.supers_of.Given as goal

abbrev pub invariant-loop-class : goal.invariant-loop-class
invariant-loop-class l = (length l.supers.items ≡ l.class) × ((c : ℕ) → c < l.class → super_at l.supers.items c ≡ superclass l.classes c)
