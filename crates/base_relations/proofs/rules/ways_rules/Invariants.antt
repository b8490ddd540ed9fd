use Rattle.std.proofs.Common.{◌≡◌, drop, []}
use Rattle.base_relations.specs.Limits.{rules_made}
use Rattle.base_relations.specs.inside.Trails.{ways_traces}
use Rattle.base_relations.proofs.rules.ways_rules.Given as goal

abbrev pub invariant-loop-way : goal.invariant-loop-way
invariant-loop-way l = rules_made l.sizes l.rules (ways_traces l.plan (drop l.way-index l.ways)) ≡ rules_made l.sizes [] (ways_traces l.plan l.ways)
