use Rattle.std.proofs.Common.{◌≡◌, take}
use Rattle.node_certificates.specs.inside.Steps.{all_steps}
use Rattle.node_certificates.proofs.steps.rules_steps.Given as goal

abbrev pub invariant-loop-rule : goal.invariant-loop-rule
invariant-loop-rule l = l.steps ≡ all_steps l.me (take l.rule-index l.rules)
