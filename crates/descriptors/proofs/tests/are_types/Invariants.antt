use Rattle.std.proofs.Common.{◌≡◌, length}
use Rattle.std.specs.List.{list_all}
use Rattle.descriptors.specs.Pieces.{types_of}
use Rattle.descriptors.specs.Tests.{is_type}
use Rattle.descriptors.proofs.tests.are_types.Given as goal

abbrev pub invariant-loop-desc : goal.invariant-loop-desc
invariant-loop-desc l = list_all is_type (types_of l.left) ≡ list_all is_type (types_of l.types)

abbrev pub decreases-loop-desc : goal.decreases-loop-desc
decreases-loop-desc l = length l.left
