use Rattle.std.proofs.Common.{◌≡◌, length}
use Rattle.lin_rows.specs.Rows.{lins, longest_of}
use Rattle.small_caps.specs.inside.Search.{question_of, IsBetter, CoversAll}
use Rattle.small_caps.proofs.search.Search.first.Given as goal

abbrev pub invariant-loop-first : goal.invariant-loop-first
invariant-loop-first l = record {
  room : length l.scratch.coefficients ≡ longest_of (lins l.self.rows.now);
  better : IsBetter (lins l.self.rows.now) l.self.l.now l.self.entry.now l.initial.best l.best;
  covers : CoversAll (question_of l.self) l.best l.first;
}
