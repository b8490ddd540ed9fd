use Rattle.path_length.specs.inside.Walking.{IsWalk, work}
use Rattle.path_length.proofs.measuring.length_from.Given as goal

abbrev pub invariant-loop-visit : goal.invariant-loop-visit
invariant-loop-visit l = IsWalk l.heap l.root l.walk.marks.items l.walk.visits.items

abbrev pub decreases-loop-visit : goal.decreases-loop-visit
decreases-loop-visit l = work l.heap l.walk.marks.items l.walk.visits.items
