use Rattle.std.proofs.Common.{ℕ, List}
use Rattle.graph_loops.specs.inside.Around.{AreAround, AreAroundTo}
use Rattle.graph_loops.proofs.around.add_loop.Given as goal

abbrev pub invariant-loop-x : goal.invariant-loop-x
invariant-loop-x l =
    (entries : List ℕ) → AreAround l.rooted.graph.now l.rooted.root entries l.initial.around.items → AreAroundTo l.rooted.graph.now l.rooted.root entries l.h l.x-items l.x-index l.around.items
