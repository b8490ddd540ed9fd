use Rattle.std.proofs.Common.{Result, Err, arith, ◌∙◌, ap, subst}
use Rattle.bound_terms.specs.declared.bound.Bound.{Bound}
use Rattle.bound_terms.specs.Bounds.{term_of}
use Rattle.bound_forms.specs.declared.fault.BoundFault.{BoundFault}
use Rattle.bound_forms.specs.Needed.{IsNormalized}
use Rattle.bound_text.proofs.Answering.{checks_read, many_read, great_read}
use Rattle.bound_text.proofs.reading.read.Goals as goal

pub returns-in-Ok : goal.returns-in-Ok
returns-in-Ok c =
    checks_read c.args.text.now (term_of c.in_ok-bound.bound) (term_of c.in-Ok.form) c.checked.result c.in_ok-bound.ensures (c.in-Ok.ensures).normal (c.in-Ok.ensures).form.0 c.checked.ensures

pub returns-in-Err-Monomials : goal.returns-in-Err-Monomials
returns-in-Err-Monomials c =
    let bound = term_of c.in_ok-bound.bound in
    let passed = subst (λ (r : Result Bound BoundFault). IsNormalized r bound) (c.in-Err-Monomials.is ∙ ap Err c.in-Err-Monomials.field-0-is) c.normal.ensures.form in
    (many_read c.args.text.now bound c.in_ok-bound.ensures passed, omega arith)

pub returns-in-Err-Coefficient : goal.returns-in-Err-Coefficient
returns-in-Err-Coefficient c =
    let bound = term_of c.in_ok-bound.bound in
    let passed = subst (λ (r : Result Bound BoundFault). IsNormalized r bound) (c.in-Err-Coefficient.is ∙ ap Err c.in-Err-Coefficient.field-0-is) c.normal.ensures.form in
    (great_read c.args.text.now bound c.in_ok-bound.ensures passed, omega arith)
