use Rattle.std.proofs.Common.{◌≡◌, ◌++◌, map}
use Rattle.std.specs.Vec.Iter.{into_iter_items}
use Rattle.bound_terms.specs.Bounds.{term_of}
use Rattle.bound_forms.specs.Monomials.{monomial_term}
use Rattle.bound_forms.specs.Coded.{coded_form}
use Rattle.bound_forms.proofs.reading.bound_of.Given as goal

abbrev pub invariant-loop-monomial : goal.invariant-loop-monomial
invariant-loop-monomial l = map term_of l.parts.items ++ map monomial_term (coded_form (into_iter_items l.monomial-iterator)) ≡ map monomial_term (coded_form l.fn.form.items)
