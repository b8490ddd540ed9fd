use Rattle.std.proofs.Common.{◌≡◌, ℕ, ◌<◌, length}
use Rattle.class_hierarchy.specs.World.{interfaces}
use Rattle.class_hierarchy.specs.Tables.{row_at}
use Rattle.class_hierarchy.proofs.table.links_of.Given as goal

abbrev pub invariant-loop-class : goal.invariant-loop-class
invariant-loop-class l = (length l.links.items ≡ l.class) × ((c : ℕ) → c < l.class → row_at l.links.items c ≡ interfaces l.classes c)
