use Rattle.std.proofs.Common.{take}
use Rattle.loop_cut.specs.inside.Arrivals.{AreMet}
use Rattle.loop_cut.proofs.heads.joins.Given as goal

abbrev pub invariant-loop-x : goal.invariant-loop-x
invariant-loop-x l = AreMet (take l.x-index l.came) l.size l.met.firsts.items l.met.joins.items
