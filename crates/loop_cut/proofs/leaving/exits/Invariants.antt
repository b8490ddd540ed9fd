use Rattle.std.proofs.Common.{◌≡◌, take}
use Rattle.std.specs.Prelude.{flat_map}
use Rattle.loop_cut.specs.inside.Gathered.{leaving_from}
use Rattle.loop_cut.proofs.leaving.exits.Given as goal

abbrev pub invariant-loop-a : goal.invariant-loop-a
invariant-loop-a l = l.found.items ≡ flat_map (leaving_from l.graph l.nodes) (take l.a-index l.nodes)
