use Rattle.std.proofs.lemmas.Result.{err_from_is_err_and}
use Rattle.bound_terms.specs.Bounds.{term_of}
use Rattle.bound_forms.proofs.Formation.{fault_normalized}
use Rattle.bound_forms.proofs.forming.normal.Goals as goal

pub returns-in_err-form : goal.returns-in_err-form
returns-in_err-form c =
    let p = err_from_is_err_and c.from_residual.result c.from_residual.ensures.1 in
    rw (p.1, p.2) (fault_normalized c.in_err-form.field-0.0 (term_of c.args.bound) c.in_err-form.ensures)
