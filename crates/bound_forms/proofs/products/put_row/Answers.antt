use Rattle.std.proofs.lemmas.Result.{err_from_is_err_and}
use Rattle.bound_forms.specs.Coded.{coded, coded_form}
use Rattle.bound_forms.proofs.Passing.{row_passes}
use Rattle.bound_forms.proofs.products.put_row.Goals as goal

pub returns-in_err-put_product : goal.returns-in_err-put_product
returns-in_err-put_product c =
    let p = err_from_is_err_and c.from_residual.result c.from_residual.ensures.1 in
    rw (p.1, p.2) (row_passes c.in_err-put_product.field-0.0 (coded c.args.m.now) c.args.q.now c.loop-n.n-index c.n-item.result (coded_form c.loop-n.gathering) _ c.loop-n-test.true c.n-item.is c.loop-n.invariant c.in_err-put_product.ensures)
