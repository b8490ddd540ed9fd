use Rattle.std.proofs.Common.{ℕ, ◌<◌}
use Rattle.entries.specs.inside.Survey.{PassesAt}
use Rattle.entries.proofs.survey.all_pass.Given as goal

abbrev pub invariant-loop-b : goal.invariant-loop-b
invariant-loop-b l = (b : ℕ) → b < l.b → PassesAt l.acyclic l.survey.graph l.survey.marks.items l.root b
