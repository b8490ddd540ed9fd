use Rattle.std.proofs.Common.{◌≡◌, ◌+◌, length}
use Rattle.descriptors.specs.Texts.{text_dimensions}
use Rattle.descriptors.proofs.tests.text_dimensions.Given as goal

abbrev pub invariant-loop-left : goal.invariant-loop-left
invariant-loop-left l = (l.dimensions + text_dimensions l.left ≡ text_dimensions l.text) × (l.dimensions + length l.left ≡ length l.text)

abbrev pub decreases-loop-left : goal.decreases-loop-left
decreases-loop-left l = length l.left
