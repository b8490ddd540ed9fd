use Rattle.std.proofs.Common.{◌≡◌, length}
use Rattle.descriptors.specs.Pieces.{types_of}
use Rattle.steps.specs.Calling.{are_arguments}
use Rattle.steps.proofs.handing.are_arguments.Given as goal

abbrev pub invariant-loop-desc : goal.invariant-loop-desc
invariant-loop-desc l = are_arguments l.world l.heap (types_of l.left) l.rest ≡ are_arguments l.world l.heap (types_of l.types) l.words

abbrev pub decreases-loop-desc : goal.decreases-loop-desc
decreases-loop-desc l = length l.left
