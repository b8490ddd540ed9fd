use Rattle.std.specs.Prelude.{◌≡◌, FitsSigned}
use Rattle.std.specs.Int.{w128}
use Rattle.std.proofs.Common.{rules, sym, ◌∙◌}
use Rattle.std.proofs.lemmas.Int.{to_z-of_z}
use Rattle.q128.specs.Rule.{inverse_parts}
use Rattle.q128.proofs.Lowest.{IsQ-inverse_parts}
use Rattle.q128.proofs.q.Q.inverse.Goals as goal

pub invariant_of-result : goal.invariant_of-result
invariant_of-result c =
    let a = c.self.inside in
    let p = c.in_ok-numerator in
    let fit_a : FitsSigned w128 a.numerator = search rules in
    let fit : FitsSigned w128 p.numerator = search rules in
    let called : c.inverse_parts.result ≡ inverse_parts a.numerator a.denominator = simp to_z-of_z at c.inverse_parts.ensures in
    rw to_z-of_z (IsQ-inverse_parts a.numerator a.denominator (p.numerator, p.denominator) fit_a.sfits c.self.invariant (sym called ∙ p.was))
