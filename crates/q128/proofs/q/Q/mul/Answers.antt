use Rattle.std.specs.Prelude.{◌≡◌, Some}
use Rattle.std.proofs.Common.{sym, ◌∙◌}
use Rattle.q128.specs.Fraction.{Fraction}
use Rattle.q128.proofs.Exact.{ok_or-each, mul-exact}
use Rattle.q128.proofs.q.Q.mul.Goals as goal

pub returns-clause-exact : goal.returns-clause-exact
returns-clause-exact c = rw (c.ok_or.ensures.value) (ok_or-each _ _ _ (λ (z : Fraction) (e : c.product_with.result ≡ Some z). mul-exact c.args.self c.args.other z (sym c.product_with.ensures ∙ e)))
