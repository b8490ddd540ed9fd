use Rattle.std.proofs.Common.{◌≡◌, length}
use Rattle.descriptors.specs.Tests.{is_type}
use Rattle.descriptors.proofs.tests.is_type.Given as goal

abbrev pub invariant-loop-left : goal.invariant-loop-left
invariant-loop-left l = is_type l.left ≡ is_type l.text

abbrev pub decreases-loop-left : goal.decreases-loop-left
decreases-loop-left l = length l.left
