use Rattle.std.proofs.Common.{◌≡◌}
use Rattle.base_relations.specs.inside.Trails.{IsKept, all_of, todo_steps, first_length, unfolded_of}
use Rattle.base_relations.proofs.tracing.forward.Given as goal

abbrev pub invariant-loop-part : goal.invariant-loop-part
invariant-loop-part l = record {
  kept : IsKept l.plan l.trail.done l.trail.pending l.trail.items;
  same : all_of l.plan l.trail.done (todo_steps l.trail.pending) ≡ all_of l.plan l.fn.trail.done (todo_steps l.fn.trail.pending);
}

abbrev pub decreases-loop-part : goal.decreases-loop-part
decreases-loop-part l = first_length (unfolded_of l.plan (todo_steps l.trail.pending))
