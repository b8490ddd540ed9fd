use Rattle.std.proofs.Common.{◌≡◌, length}
use Rattle.descriptors.specs.Texts.{names_float}
use Rattle.descriptors.proofs.pieces.names_float.Given as goal

abbrev pub invariant-loop-piece : goal.invariant-loop-piece
invariant-loop-piece l = names_float l.left ≡ names_float l.desc

abbrev pub decreases-loop-piece : goal.decreases-loop-piece
decreases-loop-piece l = length l.left
