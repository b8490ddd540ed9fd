use Rattle.std.proofs.Common.{◌≡◌, ◌++◌, [], drop}
use Rattle.node_certificates.specs.inside.Steps.{steps_from}
use Rattle.node_certificates.proofs.steps.add_rule.Given as goal

abbrev pub invariant-loop-item : goal.invariant-loop-item
invariant-loop-item l = l.steps ++ steps_from l.me l.rows (drop l.item-index l.rule) ≡ l.fn.steps ++ steps_from l.me [] l.rule
