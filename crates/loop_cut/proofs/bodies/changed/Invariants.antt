use Rattle.std.proofs.Common.{◌≡◌, take}
use Rattle.std.specs.Prelude.{flat_map}
use Rattle.loop_cut.specs.inside.Gathered.{stored_at}
use Rattle.loop_cut.proofs.bodies.changed.Given as goal

abbrev pub invariant-loop-pc : goal.invariant-loop-pc
invariant-loop-pc l = l.slots.items ≡ flat_map (stored_at l.instructions l.blocks l.numbers) (take l.pc-index l.places)
