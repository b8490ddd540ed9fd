use Rattle.std.proofs.Common.{◌≡◌, take}
use Rattle.base_relations.specs.Unfolding.{node_ways}
use Rattle.base_relations.proofs.plan.all_ways.Given as goal

abbrev pub invariant-loop-node : goal.invariant-loop-node
invariant-loop-node l = l.ways ≡ take l.node (node_ways l.r)
