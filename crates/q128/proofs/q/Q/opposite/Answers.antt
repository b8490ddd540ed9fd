use Rattle.std.specs.Prelude.{◌≡◌, FitsSigned, neg_ℤ}
use Rattle.std.specs.Int.{w128}
use Rattle.std.proofs.Common.{rules, sym, ◌∙◌}
use Rattle.std.proofs.lemmas.Int.{to_z-of_z}
use Rattle.q128.specs.Rule.{narrow}
use Rattle.q128.proofs.Checked.{narrow-some}
use Rattle.q128.proofs.Lowest.{IsQ-neg}
use Rattle.q128.proofs.q.Q.opposite.Goals as goal

pub invariant_of-result : goal.invariant_of-result
invariant_of-result c =
    let a = c.self.inside in
    let fit_a : FitsSigned w128 a.numerator = search rules in
    let fit : FitsSigned w128 c.in_ok-numerator.numerator = search rules in
    let called : c.negative.result ≡ narrow (neg_ℤ a.numerator) = simp to_z-of_z at c.negative.ensures in
    let is = narrow-some (neg_ℤ a.numerator) c.in_ok-numerator.numerator (sym called ∙ c.in_ok-numerator.was) in
    rw to_z-of_z (rw is (IsQ-neg a.numerator a.denominator c.self.invariant))
