use Rattle.std.proofs.Common.{◌≡◌, ◌++◌, take}
use Rattle.std.specs.Prelude.{flat_map}
use Rattle.loop_cut.specs.inside.Gathered.{leaving}
use Rattle.loop_cut.proofs.leaving.add_leaving.Given as goal

abbrev pub invariant-loop-x : goal.invariant-loop-x
invariant-loop-x l = l.found.items ≡ l.fn.found.items ++ flat_map (leaving l.nodes) (take l.x-index l.x-items)
