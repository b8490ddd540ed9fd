use Rattle.std.proofs.Common.{◌≡◌}
use Rattle.std.specs.List.{flat_map}
use Rattle.std.specs.Vec.Iter.{into_iter_items}
use Rattle.bound_forms.specs.Monomials.{gathered, total_form}
use Rattle.bound_forms.specs.Coded.{coded_form}
use Rattle.bound_forms.specs.Answered.{coded_forms}
use Rattle.bound_forms.proofs.totals.form_total.Given as goal

abbrev pub invariant-loop-form : goal.invariant-loop-form
invariant-loop-form l = gathered (coded_form l.gathering) (flat_map (λ p. p) (coded_forms (into_iter_items l.form-iterator))) ≡ total_form (coded_forms l.fn.forms.items)
