use Rattle.std.proofs.Common.{◌↔◌, drop}
use Rattle.graph_core.specs.Paths.{IsNotAfter}
use Rattle.plain_graphs.proofs.listing.is_not_after.Given as goal

abbrev pub invariant-loop-i : goal.invariant-loop-i
invariant-loop-i l = IsNotAfter l.xs l.ys ↔ IsNotAfter (drop l.i l.xs) (drop l.i l.ys)
