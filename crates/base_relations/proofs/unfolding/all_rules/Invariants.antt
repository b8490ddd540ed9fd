use Rattle.std.proofs.Common.{◌≡◌, drop, length, []}
use Rattle.relations.specs.Relation.{sizes_of}
use Rattle.base_relations.specs.Unfolding.{node_traces}
use Rattle.base_relations.specs.Limits.{has_base, bases_made}
use Rattle.base_relations.specs.inside.Trails.{unfolded_of}
use Rattle.base_relations.proofs.unfolding.all_rules.Given as goal

abbrev pub invariant-loop-node : goal.invariant-loop-node
invariant-loop-node l = record {
  count : length l.rules.items ≡ l.node;
  made : bases_made (has_base l.plan.covers.covers l.target) (node_traces (unfolded_of l.plan) l.plan.ways) l.rules.items l.node (drop l.node (sizes_of l.r))
      ≡ bases_made (has_base l.plan.covers.covers l.target) (node_traces (unfolded_of l.plan) l.plan.ways) [] 0 (sizes_of l.r);
}
