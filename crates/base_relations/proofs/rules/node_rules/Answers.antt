use Rattle.std.proofs.Common.{◌∙◌, List, [], ap, arith, get_or, length}
use Rattle.rule_terms.specs.declared.item.Item.{Item}
use Rattle.base_relations.proofs.Calling.{row_at}
use Rattle.base_relations.proofs.Looking.{good_ways}
use Rattle.base_relations.proofs.rules.node_rules.Goals as goal

pub ways_rules-requires-clause-good : goal.ways_rules-requires-clause-good
ways_rules-requires-clause-good c =
    let count = ap (λ (ws : List (List (List Item))). length ws) c.as_slice.ensures in
    good_ways c.args.plan.now c.requires.plan c.args.node c.as_slice-ways.result.now
    (c.as_slice-ways.ensures ∙ row_at c.as_slice.result.now c.args.node c.index-as_slice-node.result [] (omega (arith, count, c.requires.node)) c.index-as_slice-node.is ∙ ap (λ (ws : List (List (List Item))). get_or ws c.args.node []) c.as_slice.ensures)
