use Rattle.std.proofs.Common.{◌≡◌, ◌-◌, length}
use Rattle.base_relations.specs.Steps.{steps_of}
use Rattle.base_relations.specs.Limits.{rules_made}
use Rattle.base_relations.specs.inside.Trails.{IsKept, all_of, unfolded_of, todo_steps}
use Rattle.base_relations.proofs.rules.add_way.Given as goal

abbrev pub invariant-loop-alloc : goal.invariant-loop-alloc
invariant-loop-alloc l = record {
  kept : IsKept l.plan l.trail.done l.trail.pending l.trail.items;
  same : rules_made l.sizes l.rules (all_of l.plan l.trail.done (todo_steps l.trail.pending)) ≡ rules_made l.sizes l.fn.rules (unfolded_of l.plan (steps_of l.way));
}

abbrev pub decreases-loop-alloc : goal.decreases-loop-alloc
decreases-loop-alloc l = 1024 - length l.rules
