use Rattle.std.proofs.Common.{◌≡◌, ◌++◌, length}
use Rattle.descriptors.specs.Pieces.{types_of, parameters_of}
use Rattle.entries.proofs.types.with_parameters.Given as goal

abbrev pub invariant-loop-desc : goal.invariant-loop-desc
invariant-loop-desc l = l.types.items ++ types_of l.left ≡ l.initial.types.items ++ parameters_of l.fn.desc

abbrev pub decreases-loop-desc : goal.decreases-loop-desc
decreases-loop-desc l = length l.left
