use Rattle.std.proofs.Common.{◌≡◌, length}
use Rattle.graph_loops.specs.inside.Ahead.{AreAheadAt}
use Rattle.graph_loops.proofs.ahead.add_ahead.Given as goal

abbrev pub invariant-loop-b : goal.invariant-loop-b
invariant-loop-b l =
    record {
      nodes : length l.ahead ≡ length l.rooted.graph.now;
      ahead : AreAheadAt l.rooted.graph.now l.rooted.root l.a l.b-index l.ahead;
    }
