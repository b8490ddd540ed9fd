use Rattle.std.proofs.Common.{take}
use Rattle.std.specs.Prelude.{flat_map}
use Rattle.loop_cut.specs.inside.Gathered.{IsLeastOf, part_at}
use Rattle.loop_cut.proofs.bodies.least_at.Given as goal

abbrev pub invariant-loop-pc : goal.invariant-loop-pc
invariant-loop-pc l = IsLeastOf (flat_map (part_at l.floors l.blocks l.numbers) (take l.pc-index l.places)) l.lowest
