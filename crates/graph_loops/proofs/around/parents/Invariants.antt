use Rattle.std.proofs.Common.{take}
use Rattle.graph_core.specs.Nests.{entries_of}
use Rattle.graph_loops.specs.inside.Around.{AreAround}
use Rattle.graph_loops.proofs.around.parents.Given as goal

abbrev pub invariant-loop-l : goal.invariant-loop-l
invariant-loop-l l =
    AreAround l.rooted.graph.now l.rooted.root (entries_of (take l.l-index l.l-items)) l.around.items
