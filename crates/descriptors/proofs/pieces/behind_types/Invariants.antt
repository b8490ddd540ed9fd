use Rattle.std.proofs.Common.{◌≡◌, length}
use Rattle.descriptors.specs.Pieces.{behind_types}
use Rattle.descriptors.proofs.pieces.behind_types.Given as goal

abbrev pub invariant-loop-rest : goal.invariant-loop-rest
invariant-loop-rest l = behind_types l.left ≡ behind_types l.text

abbrev pub decreases-loop-rest : goal.decreases-loop-rest
decreases-loop-rest l = length l.left
