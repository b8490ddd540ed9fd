use Rattle.std.proofs.Common.{◌≡◌, ◌+◌, length}
use Rattle.descriptors.specs.Sizes.{piece_size}
use Rattle.descriptors.proofs.pieces.piece_size.Given as goal

abbrev pub invariant-loop-rest : goal.invariant-loop-rest
invariant-loop-rest l = (l.depth + piece_size l.rest ≡ piece_size l.text) × (l.depth + length l.rest ≡ length l.text)

abbrev pub decreases-loop-rest : goal.decreases-loop-rest
decreases-loop-rest l = length l.rest
