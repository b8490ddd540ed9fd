use Rattle.std.proofs.Common.{◌≡◌, false, length}
use Rattle.descriptors.specs.Tests.{ends_name}
use Rattle.descriptors.proofs.tests.ends_name.Given as goal

abbrev pub invariant-loop-left : goal.invariant-loop-left
invariant-loop-left l = ends_name l.begun l.left ≡ ends_name false l.text

abbrev pub decreases-loop-left : goal.decreases-loop-left
decreases-loop-left l = length l.left
