use Rattle.std.specs.Prelude.{◌≡◌, FitsSigned, Some, unsigned_abs}
use Rattle.std.specs.Int.{w128}
use Rattle.std.proofs.Common.{rules, sym, ap, ◌∙◌}
use Rattle.std.proofs.lemmas.Int.{to_z-of_z}
use Rattle.q128.specs.Rule.{gcd, mul_parts}
use Rattle.q128.proofs.Lowest.{IsQ-mul_parts}
use Rattle.q128.proofs.q.Q.product_with.Goals as goal

pub invariant_of-result : goal.invariant_of-result
invariant_of-result c =
    let a = c.self.inside in
    let b = c.other.inside in
    let p = c.in_ok-numerator in
    let fit_a : FitsSigned w128 a.numerator = search rules in
    let fit_b : FitsSigned w128 b.numerator = search rules in
    let fit : FitsSigned w128 p.numerator = search rules in
    let size_a : c.unsigned_abs.result ≡ unsigned_abs a.numerator = simp to_z-of_z at c.unsigned_abs.ensures.value in
    let size_b : c.unsigned_abs-2.result ≡ unsigned_abs b.numerator = simp to_z-of_z at c.unsigned_abs-2.ensures.value in
    let g = c.greatest_common_divisor-g.result in
    let h = c.greatest_common_divisor-h.result in
    let is_g : g ≡ gcd (unsigned_abs a.numerator) b.denominator = c.greatest_common_divisor-g.ensures.value ∙ ap (λ n. gcd n b.denominator) size_a in
    let is_h : h ≡ gcd (unsigned_abs b.numerator) a.denominator = c.greatest_common_divisor-h.ensures.value ∙ ap (λ n. gcd n a.denominator) size_b in
    let called : c.product_parts.result ≡ mul_parts a.numerator a.denominator b.numerator b.denominator g h = simp to_z-of_z at c.product_parts.ensures in
    let parts = mul_parts a.numerator a.denominator b.numerator b.denominator in
    let e : parts (gcd (unsigned_abs a.numerator) b.denominator) (gcd (unsigned_abs b.numerator) a.denominator) ≡ Some (p.numerator, p.denominator) =
    ap (λ n. parts n (gcd (unsigned_abs b.numerator) a.denominator)) (sym is_g) ∙ ap (parts g) (sym is_h) ∙ sym called ∙ p.was in
    rw to_z-of_z (IsQ-mul_parts a.numerator a.denominator b.numerator b.denominator (p.numerator, p.denominator) c.self.invariant c.other.invariant e)
