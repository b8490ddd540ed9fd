use Rattle.std.proofs.Common.{sym, ap, ◌∙◌}
use Rattle.std.proofs.lemmas.Result.{err_from_is_err_and}
use Rattle.std.specs.Vec.Iter.{into_iter_items}
use Rattle.bound_forms.specs.Monomials.{gathered}
use Rattle.bound_forms.specs.Coded.{coded_form}
use Rattle.bound_forms.proofs.Passing.{all_passes}
use Rattle.bound_forms.proofs.totals.put_all.Goals as goal

pub returns-in_err-put : goal.returns-in_err-put
returns-in_err-put c =
    let p = err_from_is_err_and c.from_residual.result c.from_residual.ensures.1 in
    rw (p.1, p.2) (all_passes c.in_err-put.field-0.0 c.in-Some.monomial (into_iter_items c.next.new.self) (coded_form c.loop-monomial.gathering) _
    (ap (λ xs. gathered (coded_form c.loop-monomial.gathering) (coded_form xs)) (sym c.in-Some.ensures.steps.0) ∙ c.loop-monomial.invariant) c.in_err-put.ensures)
