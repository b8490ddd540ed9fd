use Rattle.std.proofs.Common.{◌≡◌, length}
use Rattle.entries.specs.inside.Survey.{AreMarks}
use Rattle.entries.proofs.survey.marks_of.Given as goal

abbrev pub invariant-loop-b : goal.invariant-loop-b
invariant-loop-b l = record { count : length l.marks.items ≡ l.b; marks : AreMarks l.w l.heap l.g l.marks.items }
