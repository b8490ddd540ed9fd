use Rattle.std.proofs.Common.{◌≡◌, length}
use Rattle.lin_rows.specs.Rows.{lins}
use Rattle.small_sums.specs.inside.Search.{IsFound, Keeps, IsVisited, left_of}
use Rattle.small_sums.proofs.index.RowIndex.better_behind.Given as goal

abbrev pub invariant-loop-at : goal.invariant-loop-at
invariant-loop-at l = record {
  room : length l.scratch.coefficients ≡ length l.initial.scratch.coefficients;
  found : IsFound (lins l.self) l.goal l.initial.best → IsFound (lins l.self) l.goal l.best;
  keeps : Keeps l.initial.best l.best;
  visited : IsVisited (lins l.self) l.self-inside.places l.goal l.best l.front l.key l.at;
}

abbrev pub decreases-loop-at : goal.decreases-loop-at
decreases-loop-at l = left_of l.at
