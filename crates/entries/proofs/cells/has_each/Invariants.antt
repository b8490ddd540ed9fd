use Rattle.std.proofs.Common.{◌≡◌, take, true}
use Rattle.entries.specs.inside.Cells.{has_each}
use Rattle.entries.proofs.cells.has_each.Given as goal

abbrev pub invariant-loop-d : goal.invariant-loop-d
invariant-loop-d l = has_each l.w l.heap l.fields (take l.d-index l.classes) ≡ true
