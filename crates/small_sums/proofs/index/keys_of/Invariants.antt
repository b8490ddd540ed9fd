use Rattle.lin_rows.specs.Rows.{lins}
use Rattle.small_sums.specs.inside.Search.{AreKeysTo}
use Rattle.small_sums.proofs.index.keys_of.Given as goal

abbrev pub invariant-loop-row : goal.invariant-loop-row
invariant-loop-row l = AreKeysTo l.row-index (lins l.rows) l.keys.items
