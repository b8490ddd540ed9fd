use Rattle.std.proofs.Common.{rules, ◌<◌, ◌≤◌, ◌^◌, length, ap, ◌∙◌, subst}
use Rattle.std.specs.Prelude.{All, FitsSigned}
use Rattle.std.specs.Int.{w128}
use Rattle.bound_normal.proofs.normalizing.see_expression.Goals as goal

pub returns : goal.returns
returns c =
    let is = c.expression-l.ensures in
    let fit : FitsSigned w128 c.constant-constant.result = search rules in
    record {
      coefficients = subst (All (FitsSigned w128)) (c.coefficients.ensures ∙ ap (λ e. e.coefficients) is) c.see_numbers.ensures;
      constant = subst (FitsSigned w128) (c.constant-constant.ensures ∙ ap (λ e. e.constant) is) fit;
      variables = subst (λ n. n < 2 ^ 32) (c.len-length.ensures ∙ ap (λ e. length e.coefficients) is) c.len-length.type_inv;
      positive = subst (λ d. 1 ≤ d) c.divisor-divisor.ensures.value c.divisor-divisor.ensures.positive;
    }
