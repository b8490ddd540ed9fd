use Rattle.std.proofs.Common.{◌≡◌}
use Rattle.std.specs.Vec.Iter.{into_iter_items}
use Rattle.bound_forms.specs.Monomials.{gathered}
use Rattle.bound_forms.specs.Coded.{coded_form}
use Rattle.bound_forms.proofs.totals.put_all.Given as goal

abbrev pub invariant-loop-monomial : goal.invariant-loop-monomial
invariant-loop-monomial l = gathered (coded_form l.gathering) (coded_form (into_iter_items l.monomial-iterator)) ≡ gathered (coded_form l.initial.gathering) (coded_form l.fn.form.items)
