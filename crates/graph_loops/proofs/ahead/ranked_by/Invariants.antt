use Rattle.std.proofs.Common.{length}
use Rattle.graph_core.specs.Numbers.{AreCounted}
use Rattle.graph_loops.specs.inside.Ahead.{ArePlaced}
use Rattle.graph_loops.proofs.ahead.ranked_by.Given as goal

abbrev pub invariant-loop-x : goal.invariant-loop-x
invariant-loop-x l =
    record { counted : AreCounted l.numbers (length l.places.items); placed : ArePlaced l.numbers l.x l.places.items }
