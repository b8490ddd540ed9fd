-- Cost relations: nodes with sizes, and each node's rules (Albert, Arenas, Genaim, Puebla and Zanardini).
use Rattle.std.specs.Prelude.{ℕ, Bool, List, length, map, flat_map, slice_get, Option, option_map}
use Rattle.rule_terms.specs.declared.item.Item.{Item}
use Rattle.rule_terms.specs.declared.rule.Rule.{Rule}
use Rattle.rule_terms.specs.Terms.{term_of}
use Rattle.rule_terms.specs.Paths.{paths_of}
use Rattle.relations.specs.declared.node.Node.{Node}

-- the nodes by number
abbrev pub Relation : Type 0
Relation = List Node

-- how many sizes each node has
abbrev pub sizes_of : Relation → List ℕ
sizes_of relation = map (λ (node : Node). length node.lengths) relation

-- the ways through rules, in order
abbrev pub ways_of : List Rule → List (List Item)
ways_of rules = flat_map (λ (rule : Rule). paths_of (term_of rule)) rules
