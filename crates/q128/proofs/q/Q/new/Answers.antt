use Rattle.std.specs.Prelude.{◌≡◌, Some, FitsSigned}
use Rattle.std.specs.Int.{w128}
use Rattle.std.proofs.Common.{sym, ◌∙◌}
use Rattle.std.proofs.lemmas.Int.{to_z-of_z}
use Rattle.q128.specs.Fraction.{Fraction}
use Rattle.q128.specs.Rule.{new_rule}
use Rattle.q128.proofs.Exact.{ok_or-each, new-exact}
use Rattle.q128.proofs.q.Q.new.Goals as goal

pub returns-clause-exact : goal.returns-clause-exact
returns-clause-exact c =
    let fit_a : FitsSigned w128 c.args.num = c.ranges.num in
    let fit_b : FitsSigned w128 c.args.den = c.ranges.den in
    let called : c.ratio.result ≡ new_rule c.args.num c.args.den = simp to_z-of_z at c.ratio.ensures in
    rw (c.ok_or.ensures.value) (ok_or-each _ _ _ (λ (z : Fraction) (e : c.ratio.result ≡ Some z). new-exact c.args.num c.args.den z c.requires fit_b.sfits (sym called ∙ e)))
