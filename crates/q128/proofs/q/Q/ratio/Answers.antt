use Rattle.std.specs.Prelude.{◌≡◌, FitsSigned, unsigned_abs}
use Rattle.std.specs.Int.{w128}
use Rattle.std.proofs.Common.{rules, sym, ap, ◌∙◌}
use Rattle.std.proofs.lemmas.Int.{to_z-of_z}
use Rattle.q128.specs.Rule.{gcd, new_parts}
use Rattle.q128.proofs.Lowest.{IsQ-new_parts}
use Rattle.q128.proofs.q.Q.ratio.Goals as goal

pub invariant_of-result : goal.invariant_of-result
invariant_of-result c =
    let p = c.in_ok-numerator in
    let a = c.args.num in
    let b = c.args.den in
    let fit_a : FitsSigned w128 a = c.ranges.num in
    let fit_b : FitsSigned w128 b = c.ranges.den in
    let fit : FitsSigned w128 p.numerator = search rules in
    let called : c.new_parts.result ≡ new_parts a b c.greatest_common_divisor-g.result = simp to_z-of_z at c.new_parts.ensures in
    let size_a : c.unsigned_abs.result ≡ unsigned_abs a = simp to_z-of_z at c.unsigned_abs.ensures.value in
    let size_b : c.unsigned_abs-2.result ≡ unsigned_abs b = simp to_z-of_z at c.unsigned_abs-2.ensures.value in
    let is : c.greatest_common_divisor-g.result ≡ gcd (unsigned_abs a) (unsigned_abs b) = c.greatest_common_divisor-g.ensures.value ∙ ap (λ n. gcd n c.unsigned_abs-2.result) size_a ∙ ap (gcd (unsigned_abs a)) size_b in
    rw to_z-of_z (IsQ-new_parts a b (p.numerator, p.denominator) c.requires fit_b.sfits (ap (new_parts a b) (sym is) ∙ sym called ∙ p.was))
