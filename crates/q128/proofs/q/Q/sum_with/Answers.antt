use Rattle.std.specs.Prelude.{◌≡◌, FitsSigned, Some}
use Rattle.std.specs.Int.{w128}
use Rattle.std.proofs.Common.{rules, sym, ap, ◌∙◌}
use Rattle.std.proofs.lemmas.Int.{to_z-of_z}
use Rattle.q128.specs.Rule.{gcd, add_parts}
use Rattle.q128.proofs.Lowest.{IsQ-add_parts}
use Rattle.q128.proofs.q.Q.sum_with.Goals as goal

pub invariant_of-result : goal.invariant_of-result
invariant_of-result c =
    let a = c.self.inside in
    let b = c.other.inside in
    let p = c.in_ok-numerator in
    let fit_a : FitsSigned w128 a.numerator = search rules in
    let fit_b : FitsSigned w128 b.numerator = search rules in
    let fit : FitsSigned w128 p.numerator = search rules in
    let called : c.sum_parts.result ≡ add_parts a.numerator a.denominator b.numerator b.denominator c.greatest_common_divisor-g.result = simp to_z-of_z at c.sum_parts.ensures in
    let e : add_parts a.numerator a.denominator b.numerator b.denominator (gcd a.denominator b.denominator) ≡ Some (p.numerator, p.denominator) =
    ap (add_parts a.numerator a.denominator b.numerator b.denominator) (sym c.greatest_common_divisor-g.ensures.value) ∙ sym called ∙ p.was in
    rw to_z-of_z (IsQ-add_parts a.numerator a.denominator b.numerator b.denominator (p.numerator, p.denominator) c.self.invariant c.other.invariant e)
