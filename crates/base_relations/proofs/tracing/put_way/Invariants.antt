use Rattle.std.proofs.Common.{◌≡◌, ◌++◌, ◌≤◌, length, drop}
use Rattle.base_relations.specs.Steps.{steps_of}
use Rattle.base_relations.specs.inside.Trails.{todo_steps}
use Rattle.base_relations.proofs.tracing.put_way.Given as goal

abbrev pub invariant-loop-i : goal.invariant-loop-i
invariant-loop-i l = record {
  put : todo_steps l.pending ≡ steps_of (drop l.i l.way) ++ todo_steps l.fn.pending;
  low : l.i ≤ length l.way;
}

abbrev pub decreases-loop-i : goal.decreases-loop-i
decreases-loop-i l = l.i
