use Rattle.world.proofs.Standings.{StandUpTo}
use Rattle.world.proofs.world.World.standings.Given as goal

abbrev pub invariant-loop-r : goal.invariant-loop-r
invariant-loop-r l = StandUpTo l.self l.class l.fn.m l.order l.r-index l.standings.items
