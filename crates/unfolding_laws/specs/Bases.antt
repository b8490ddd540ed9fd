-- Base relations as ways through nodes.
use Rattle.std.specs.Prelude.{List, [], Option, Some, None}
use Rattle.rule_terms.specs.declared.item.Item.{Item}
use Rattle.relations.specs.declared.direct.DirectNode.{DirectNode}
use Rattle.base_relations.specs.Direct.{base_at}
use Rattle.relation_runs.specs.Passing.{Ways}

-- the rules of a base relation, none where there is none
abbrev pub base_rules : Option DirectNode → List (List Item)
base_rules None = []
base_rules (Some base) = base.rules

-- the ways through the nodes that have base relations
abbrev pub base_ways : List (Option DirectNode) → Ways
base_ways nodes n = base_rules (base_at nodes n)
