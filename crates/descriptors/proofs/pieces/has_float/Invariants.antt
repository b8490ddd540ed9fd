use Rattle.std.proofs.Common.{◌≡◌, length}
use Rattle.descriptors.specs.Texts.{has_float}
use Rattle.descriptors.proofs.pieces.has_float.Given as goal

abbrev pub invariant-loop-left : goal.invariant-loop-left
invariant-loop-left l = has_float l.left ≡ has_float l.desc

abbrev pub decreases-loop-left : goal.decreases-loop-left
decreases-loop-left l = length l.left
