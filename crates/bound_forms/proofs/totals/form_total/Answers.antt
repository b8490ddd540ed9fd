use Rattle.std.proofs.Common.{ap}
use Rattle.std.proofs.lemmas.Result.{err_from_is_err_and}
use Rattle.std.specs.Vec.Iter.{into_iter_items}
use Rattle.bound_forms.specs.Coded.{coded_form}
use Rattle.bound_forms.specs.Answered.{coded_forms}
use Rattle.bound_forms.proofs.Passing.{total_goes, total_passes}
use Rattle.bound_forms.proofs.totals.form_total.Goals as goal

pub loop-form-preserved : goal.loop-form-preserved
loop-form-preserved c =
    total_goes c.in-Some.form.items (coded_forms (into_iter_items c.loop-form.form-iterator)) (coded_forms (into_iter_items c.next.new.self)) (coded_form c.loop-form.gathering) (coded_form c.put_all.new.gathering) _
    (ap coded_forms c.in-Some.ensures.steps.0) c.loop-form.invariant c.in_ok-put_all.ensures

pub returns-in_err-put_all : goal.returns-in_err-put_all
returns-in_err-put_all c =
    let p = err_from_is_err_and c.from_residual.result c.from_residual.ensures.1 in
    rw (p.1, p.2) (total_passes c.in_err-put_all.field-0.0 c.in-Some.form.items (coded_forms (into_iter_items c.loop-form.form-iterator)) (coded_forms (into_iter_items c.next.new.self)) (coded_form c.loop-form.gathering) _
    (ap coded_forms c.in-Some.ensures.steps.0) c.loop-form.invariant c.in_err-put_all.ensures)
