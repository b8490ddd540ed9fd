use Rattle.std.proofs.Common.{◌≡◌, ℕ, List, take, map}
use Rattle.std.specs.Prelude.{All}
use Rattle.loop_cut.specs.CodeLoops.{IsCut, entered_of}
use Rattle.loop_cut.specs.inside.Gathered.{IsSurvey}
use Rattle.loop_cut.proofs.cutting.code_loops.Given as goal

abbrev pub invariant-loop-l : goal.invariant-loop-l
invariant-loop-l g = record {
  same : map entered_of g.found ≡ take g.l-index g.l-items;
  each : (heights : List ℕ) → IsSurvey g.body heights g.survey.numbers.items g.survey.floors.items → All (IsCut g.body heights g.graph) g.found;
}
