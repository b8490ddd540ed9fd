use Rattle.std.proofs.Common.{◌≡◌}
use Rattle.graph_core.specs.Search.{node_at}
use Rattle.graph_core.specs.Walk.{IsWalk, steps_left}
use Rattle.graph_core.proofs.walk.first_paths.Given as goal

abbrev pub invariant-loop-walk : goal.invariant-loop-walk
invariant-loop-walk l =
    record { walk : IsWalk l.g l.walk.paths l.walk.nexts.items l.walk.here; root : node_at l.walk.paths 0 ≡ l.root }

abbrev pub decreases-loop-walk : goal.decreases-loop-walk
decreases-loop-walk l = steps_left l.g l.walk.nexts.items l.walk.here
