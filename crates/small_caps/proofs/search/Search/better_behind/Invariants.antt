use Rattle.std.proofs.Common.{◌≡◌, length}
use Rattle.lin_rows.specs.Rows.{lins}
use Rattle.small_caps.specs.inside.Search.{question_of, IsBetter, IsVisited, left_of}
use Rattle.small_caps.proofs.search.Search.better_behind.Given as goal

abbrev pub invariant-loop-at : goal.invariant-loop-at
invariant-loop-at l = record {
  room : length l.scratch.coefficients ≡ length l.initial.scratch.coefficients;
  better : IsBetter (lins l.self.rows.now) l.self.l.now l.self.entry.now l.initial.best l.best;
  visited : IsVisited (question_of l.self) l.best l.front l.key l.at;
}

abbrev pub decreases-loop-at : goal.decreases-loop-at
decreases-loop-at l = left_of l.at
