use Rattle.fix_engine.specs.Counting.{AreCounts}
use Rattle.fix_engine.proofs.readers.counts.Given as goal

abbrev pub invariant-loop-edge : goal.invariant-loop-edge
invariant-loop-edge g l = AreCounts (g.F.Flow.problem l.flow) l.edge l.counts.items
