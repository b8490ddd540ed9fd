use Rattle.std.proofs.Common.{◌≡◌, ◌++◌, map, All}
use Rattle.std.specs.Vec.Iter.{into_iter_items}
use Rattle.bound_terms.specs.Bounds.{term_of}
use Rattle.bound_forms.specs.Maxima.{monomial_of}
use Rattle.bound_forms.specs.inside.Pruning.{IsLow}
use Rattle.bound_forms.specs.Coded.{coded_form}
use Rattle.bound_forms.proofs.reading.form_of_parts.Given as goal

abbrev pub invariant-loop-part : goal.invariant-loop-part
invariant-loop-part l =
    (coded_form l.form.items ++ map monomial_of (map term_of (into_iter_items l.part-iterator)) ≡ map monomial_of (map term_of l.fn.parts.items))
    × All IsLow (map monomial_of (map term_of (into_iter_items l.part-iterator)))
