use Rattle.std.proofs.Common.{◌≡◌, length}
use Rattle.entries.specs.inside.Survey.{IsGraphBelow}
use Rattle.entries.proofs.survey.graph_of.Given as goal

abbrev pub invariant-loop-a : goal.invariant-loop-a
invariant-loop-a l = record { nodes : length l.g ≡ length l.heap; edges : IsGraphBelow l.heap l.g l.a }
