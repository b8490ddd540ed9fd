use Rattle.std.proofs.lemmas.Result.{err_from_is_err_and}
use Rattle.bound_forms.specs.Coded.{coded_form}
use Rattle.bound_forms.proofs.Passing.{product_goes, product_passes}
use Rattle.bound_forms.proofs.products.form_product.Goals as goal

pub loop-m-preserved : goal.loop-m-preserved
loop-m-preserved c =
    product_goes c.args.p.now c.args.q.now c.loop-m.m-index c.m-item.result (coded_form c.loop-m.gathering) (coded_form c.put_row.new.gathering) _ c.loop-m-test.true c.m-item.is c.loop-m.invariant c.in_ok-put_row.ensures

pub returns-in_err-put_row : goal.returns-in_err-put_row
returns-in_err-put_row c =
    let p = err_from_is_err_and c.from_residual.result c.from_residual.ensures.1 in
    rw (p.1, p.2) (product_passes c.in_err-put_row.field-0.0 c.args.p.now c.args.q.now c.loop-m.m-index c.m-item.result (coded_form c.loop-m.gathering) _ c.loop-m-test.true c.m-item.is c.loop-m.invariant c.in_err-put_row.ensures)
