use Rattle.std.proofs.Common.{◌≡◌, ◌≤◌, ◌+◌, ◌*◌, length}
use Rattle.descriptors.specs.Pieces.{types_of}
use Rattle.descriptors.specs.Texts.{words_of_all}
use Rattle.descriptors.proofs.pieces.words_of_all.Given as goal

abbrev pub invariant-loop-desc : goal.invariant-loop-desc
invariant-loop-desc l = (l.words + words_of_all (types_of l.left) ≡ words_of_all (types_of l.types)) × (l.words + 2 * length l.left ≤ 2 * length l.types)

abbrev pub decreases-loop-desc : goal.decreases-loop-desc
decreases-loop-desc l = length l.left
