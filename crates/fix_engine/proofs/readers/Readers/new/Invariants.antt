use Rattle.fix_engine.specs.Counting.{ArePlaced}
use Rattle.fix_engine.proofs.readers.Readers.new.Given as goal

abbrev pub invariant-loop-edge : goal.invariant-loop-edge
invariant-loop-edge g l = ArePlaced (g.F.Flow.problem l.flow) l.edge l.offsets.items l.edges.items
