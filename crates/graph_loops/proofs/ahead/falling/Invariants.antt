use Rattle.std.proofs.Common.{◌≤◌, length}
use Rattle.graph_loops.specs.inside.Ahead.{IsFallingTo}
use Rattle.graph_loops.proofs.ahead.falling.Given as goal

abbrev pub invariant-loop-k : goal.invariant-loop-k
invariant-loop-k l =
    record {
      order : IsFallingTo l.rooted.graph.now l.rooted.root l.ranked.numbers l.k l.order.items;
      k : l.k ≤ length l.ranked.places.items;
    }

abbrev pub decreases-loop-k : goal.decreases-loop-k
decreases-loop-k l = l.k
