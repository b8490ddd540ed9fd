use Rattle.std.proofs.Common.{◌≤◌, length}
use Rattle.frames.specs.Places.{HasPlacesFrom}
use Rattle.frames.proofs.statics.places_of.Given as goal

abbrev pub invariant-loop-left : goal.invariant-loop-left
invariant-loop-left l = HasPlacesFrom l.left l.places l.values × (l.left ≤ length l.values)

abbrev pub decreases-loop-left : goal.decreases-loop-left
decreases-loop-left l = l.left
