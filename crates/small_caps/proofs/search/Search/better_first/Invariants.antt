use Rattle.std.proofs.Common.{◌≡◌, length}
use Rattle.lin_rows.specs.Rows.{lins}
use Rattle.small_caps.specs.inside.Search.{question_of, IsBetter, CoversFirst}
use Rattle.small_caps.proofs.search.Search.better_first.Given as goal

abbrev pub invariant-loop-second : goal.invariant-loop-second
invariant-loop-second l = record {
  room : length l.scratch.coefficients ≡ length l.initial.scratch.coefficients;
  better : IsBetter (lins l.self.rows.now) l.self.l.now l.self.entry.now l.initial.best l.best;
  covers : CoversFirst (question_of l.self) l.best l.first l.second;
}
