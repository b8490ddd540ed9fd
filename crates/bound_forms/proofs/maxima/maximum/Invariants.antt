use Rattle.std.proofs.Common.{◌≡◌, ◌++◌, map}
use Rattle.std.specs.Vec.Iter.{into_iter_items}
use Rattle.bound_terms.specs.Bounds.{term_of}
use Rattle.bound_forms.specs.Monomials.{form_term}
use Rattle.bound_forms.specs.Answered.{coded_forms}
use Rattle.bound_forms.proofs.maxima.maximum.Given as goal

abbrev pub invariant-loop-operand : goal.invariant-loop-operand
invariant-loop-operand l = map term_of l.parts.items ++ map form_term (coded_forms (into_iter_items l.operand-iterator)) ≡ map form_term (coded_forms l.fn.operands.items)
