use Rattle.std.proofs.Common.{◌≡◌, length}
use Rattle.graph_loops.specs.inside.Ahead.{AreAheadTo}
use Rattle.graph_loops.proofs.ahead.ahead_of.Given as goal

abbrev pub invariant-loop-a : goal.invariant-loop-a
invariant-loop-a l =
    record {
      nodes : length l.ahead ≡ length l.rooted.graph.now;
      ahead : AreAheadTo l.rooted.graph.now l.rooted.root l.a l.ahead;
    }
