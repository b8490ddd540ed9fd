use Rattle.std.proofs.Common.{◌≤◌, ◌∙◌, sym, subst}
use Rattle.bound_forms.proofs.Vanishing.{power_full, not_zero}
use Rattle.bound_forms.proofs.zeros.is_zero_power.Goals as goal

pub returns-clause-value : goal.returns-clause-value
returns-clause-value c n = not_zero c.get.result c.get.ensures.positive ∙ sym (power_full c.args.b.now n (subst (λ b. 1 ≤ b) c.get.ensures.value c.get.ensures.positive))
