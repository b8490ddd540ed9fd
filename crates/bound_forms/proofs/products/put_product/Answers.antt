use Rattle.std.proofs.Common.{◌*◌, sym}
use Rattle.std.specs.Prelude.{Err}
use Rattle.std.proofs.lemmas.Result.{err_from_is_err_and}
use Rattle.bound_forms.specs.Coded.{coded, coded_form}
use Rattle.bound_forms.specs.inside.Passing.{Limited}
use Rattle.bound_forms.proofs.Passing.{limited_passes}
use Rattle.bound_forms.proofs.products.put_product.Goals as goal

pub returns-in_err-coefficient : goal.returns-in_err-coefficient
returns-in_err-coefficient c =
    let p = err_from_is_err_and c.from_residual.result c.from_residual.ensures.1 in
    let e : Limited (Err c.in_err-coefficient.field-0.0) (c.args.m.now.0 * c.args.n.now.0) = rw (sym c.coefficient.ensures.value, sym c.coefficient-2.ensures.value) c.in_err-coefficient.ensures in
    rw (p.1, p.2) (limited_passes c.in_err-coefficient.field-0.0 (coded c.args.m.now) (coded c.args.n.now) (coded_form c.args.gathering.now) e)
