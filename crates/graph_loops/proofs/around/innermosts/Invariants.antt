use Rattle.std.proofs.Common.{take}
use Rattle.graph_core.specs.Nests.{entries_of}
use Rattle.graph_loops.specs.inside.Around.{AreInnerTo}
use Rattle.graph_loops.proofs.around.innermosts.Given as goal

abbrev pub invariant-loop-l : goal.invariant-loop-l
invariant-loop-l l = AreInnerTo l.parents (entries_of (take l.l-index l.l-items)) l.inner.items
