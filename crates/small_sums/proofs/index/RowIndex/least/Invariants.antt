use Rattle.std.proofs.Common.{◌≡◌, length}
use Rattle.lin_rows.specs.Rows.{lins, longest_of}
use Rattle.small_sums.specs.inside.Search.{IsSearched}
use Rattle.small_sums.proofs.index.RowIndex.least.Given as goal

abbrev pub invariant-loop-front : goal.invariant-loop-front
invariant-loop-front l = record {
  room : length l.scratch.coefficients ≡ longest_of (lins l.self);
  searched : IsSearched (lins l.self) l.goal l.best l.front;
}
