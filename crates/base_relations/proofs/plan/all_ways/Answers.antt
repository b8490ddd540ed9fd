use Rattle.std.proofs.Common.{◌∙◌, ◌++◌, ◌∷◌, List, [], ap, ap₂, add-one}
use Rattle.rule_terms.specs.declared.item.Item.{Item}
use Rattle.base_relations.proofs.Assembling.{ways_more}
use Rattle.base_relations.proofs.plan.all_ways.Goals as goal

pub loop-node-preserved : goal.loop-node-preserved
loop-node-preserved c =
    rw add-one (c.in_ok-push.ensures.ok ∙ ap₂ (λ (xs : List (List (List Item))) (x : List (List Item)). xs ++ x ∷ []) c.loop-node.invariant c.in_ok-rules_ways.ensures ∙ ways_more c.args.r.now c.loop-node.node c.rules.result.now c.rules.ensures)
