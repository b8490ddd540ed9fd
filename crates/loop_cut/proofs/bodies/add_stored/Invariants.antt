use Rattle.std.proofs.Common.{◌≡◌, ◌++◌, take}
use Rattle.loop_cut.specs.inside.Gathered.{stored_in}
use Rattle.loop_cut.proofs.bodies.add_stored.Given as goal

abbrev pub invariant-loop-i : goal.invariant-loop-i
invariant-loop-i l = l.slots.items ≡ l.fn.slots.items ++ stored_in (take l.i-index l.instructions)
