use Rattle.std.proofs.Common.{rules, ◌∙◌, ap, FitsSigned}
use Rattle.std.specs.Int.{w128}
use Rattle.bound_forms.proofs.Fixed.{summed}
use Rattle.bound_forms.proofs.leaves.fixed_value.Goals as goal

pub returns-then-trimmed_len-gt0-clause-summed : goal.returns-then-trimmed_len-gt0-clause-summed
returns-then-trimmed_len-gt0-clause-summed c =
    let fit : FitsSigned w128 c.constant-constant.result = search rules in
    summed c.args.n.now.expression c.constant-constant.result (c.constant-constant.ensures ∙ ap (λ l. l.constant) c.expression-l.ensures) fit

pub returns-then-constant-lt0-clause-summed : goal.returns-then-constant-lt0-clause-summed
returns-then-constant-lt0-clause-summed c =
    let fit : FitsSigned w128 c.constant-constant.result = search rules in
    summed c.args.n.now.expression c.constant-constant.result (c.constant-constant.ensures ∙ ap (λ l. l.constant) c.expression-l.ensures) fit

pub returns-else-constant-lt0-clause-summed : goal.returns-else-constant-lt0-clause-summed
returns-else-constant-lt0-clause-summed c =
    let fit : FitsSigned w128 c.constant-constant.result = search rules in
    summed c.args.n.now.expression c.constant-constant.result (c.constant-constant.ensures ∙ ap (λ l. l.constant) c.expression-l.ensures) fit
