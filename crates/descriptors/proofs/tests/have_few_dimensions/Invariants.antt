use Rattle.std.proofs.Common.{◌≡◌, length}
use Rattle.std.specs.List.{list_all}
use Rattle.descriptors.specs.Pieces.{types_of}
use Rattle.descriptors.specs.Tests.{has_few_dimensions}
use Rattle.descriptors.proofs.tests.have_few_dimensions.Given as goal

abbrev pub invariant-loop-desc : goal.invariant-loop-desc
invariant-loop-desc l = list_all has_few_dimensions (types_of l.left) ≡ list_all has_few_dimensions (types_of l.types)

abbrev pub decreases-loop-desc : goal.decreases-loop-desc
decreases-loop-desc l = length l.left
