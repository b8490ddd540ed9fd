use Rattle.std.proofs.Common.{◌∙◌}
use Rattle.bound_terms.specs.Bounds.{term_of}
use Rattle.bound_forms.proofs.Fixed.{power_fixed}
use Rattle.bound_forms.proofs.leaves.power_form.Goals as goal

pub returns-in-Some : goal.returns-in-Some
returns-in-Some c =
    power_fixed c.fixed.result (term_of c.args.bound.now) c.args.b.now c.args.n.now c.in-Some._number c.requires (λ e. c.if-get-eq1.false (c.get.ensures.value ∙ e)) c.in-Some.ensures.value c.fixed.ensures
