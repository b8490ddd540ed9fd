use Rattle.std.specs.Prelude.{◌≡◌, List, IfOk}
use Rattle.std.proofs.Common.{subst}
use Rattle.rule_terms.specs.declared.item.Item.{Item}
use Rattle.node_certificates.specs.inside.Steps.{all_steps}
use Rattle.node_certificates.proofs.SelfSteps.{answer_steps}
use Rattle.node_certificates.proofs.steps.self_steps.Goals as goal

pub returns : goal.returns
returns c =
    answer_steps c.args.node.now.node c.args.node.now.rules c.rules_steps.result
    (subst (λ (rules : List (List Item)). IfOk c.rules_steps.result (λ steps. steps ≡ all_steps c.args.node.now.node rules)) c.as_slice.ensures c.rules_steps.ensures)
