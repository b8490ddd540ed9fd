use Rattle.std.proofs.Common.{◌≡◌, take, true}
use Rattle.entries.specs.inside.Cells.{are_known}
use Rattle.entries.proofs.cells.are_known.Given as goal

abbrev pub invariant-loop-f : goal.invariant-loop-f
invariant-loop-f l = are_known l.w l.classes (take l.f-index l.fields) ≡ true
