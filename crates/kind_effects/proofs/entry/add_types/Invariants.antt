use Rattle.std.proofs.Common.{◌≡◌, ◌++◌, flat_map, length}
use Rattle.descriptors.specs.Pieces.{types_of}
use Rattle.kind_effects.specs.Types.{kinds_of_type}
use Rattle.kind_effects.proofs.entry.add_types.Given as goal

abbrev pub invariant-loop-desc : goal.invariant-loop-desc
invariant-loop-desc l = l.kinds.items ++ flat_map kinds_of_type (types_of l.left) ≡ l.initial.kinds.items ++ flat_map kinds_of_type (types_of l.types)

abbrev pub decreases-loop-desc : goal.decreases-loop-desc
decreases-loop-desc l = length l.left
