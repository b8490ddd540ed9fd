use Rattle.std.proofs.Common.{◌≡◌, length}
use Rattle.entries.specs.inside.Cells.{are_distinct}
use Rattle.entries.proofs.cells.are_distinct.Given as goal

abbrev pub invariant-loop-left : goal.invariant-loop-left
invariant-loop-left l = are_distinct l.fields ≡ are_distinct l.left

abbrev pub decreases-loop-left : goal.decreases-loop-left
decreases-loop-left l = length l.left
