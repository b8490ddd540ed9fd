use Rattle.std.proofs.Common.{◌≡◌, ◌+◌, ◌++◌, [], length, drop}
use Rattle.std.specs.Vec.Iter.{into_iter_items}
use Rattle.bound_forms.specs.Maxima.{pruned}
use Rattle.bound_forms.specs.Answered.{coded_forms}
use Rattle.bound_forms.specs.inside.Pruning.{unflagged}
use Rattle.bound_forms.proofs.maxima.pruned.Given as goal

abbrev pub invariant-loop-operand : goal.invariant-loop-operand
invariant-loop-operand l =
    (length l.flags.items ≡ l.i + length (into_iter_items l.operand-iterator))
    × (coded_forms l.kept.items ++ unflagged (drop l.i l.flags.items) (coded_forms (into_iter_items l.operand-iterator)) ≡ pruned [] (coded_forms l.fn.operands.items))
