use Rattle.std.proofs.Common.{◌≡◌, length}
use Rattle.base_relations.specs.inside.Trails.{IsKept, later_of, todo_steps}
use Rattle.base_relations.proofs.tracing.back.Given as goal

abbrev pub invariant-loop-part : goal.invariant-loop-part
invariant-loop-part l = record {
  kept : IsKept l.plan l.trail.done l.trail.pending l.trail.items;
  same : later_of l.plan l.trail.done (todo_steps l.trail.pending) ≡ later_of l.plan l.fn.trail.done (todo_steps l.fn.trail.pending);
}

abbrev pub decreases-loop-part : goal.decreases-loop-part
decreases-loop-part l = length l.trail.done
