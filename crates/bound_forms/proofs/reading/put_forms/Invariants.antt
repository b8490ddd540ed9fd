use Rattle.std.proofs.Common.{◌≡◌, ◌++◌, map, All}
use Rattle.std.specs.Vec.Iter.{into_iter_items}
use Rattle.bound_terms.specs.Bounds.{term_of}
use Rattle.bound_forms.specs.Maxima.{form_of}
use Rattle.bound_forms.specs.inside.Pruning.{IsLow}
use Rattle.bound_forms.specs.Answered.{coded_forms}
use Rattle.bound_forms.proofs.reading.put_forms.Given as goal

abbrev pub invariant-loop-part : goal.invariant-loop-part
invariant-loop-part l =
    (coded_forms l.operands.items ++ map form_of (map term_of (into_iter_items l.part-iterator)) ≡ coded_forms l.initial.operands.items ++ map form_of (map term_of l.fn.parts.items))
    × All (All IsLow) (map form_of (map term_of (into_iter_items l.part-iterator)))
