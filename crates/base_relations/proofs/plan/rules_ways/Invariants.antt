use Rattle.std.proofs.Common.{◌≡◌, take}
use Rattle.relations.specs.Relation.{ways_of}
use Rattle.base_relations.proofs.plan.rules_ways.Given as goal

abbrev pub invariant-loop-rule : goal.invariant-loop-rule
invariant-loop-rule l = l.ways.items ≡ ways_of (take l.rule-index l.rules)
