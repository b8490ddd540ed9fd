use Rattle.std.proofs.Common.{arith}
use Rattle.world.proofs.Standings.{stand_next, stand_end}
use Rattle.world.proofs.world.World.standings.Goals as goal

pub loop-r-preserved : goal.loop-r-preserved
loop-r-preserved c =
    stand_next c.args.self.now c.args.class c.args.m c.supers_first-order.result.now c.loop-r.r-index c.loop-r.standings.items c.standing_of-standing.result (rw c.self.view_is at c.supers_first-order.ensures) c.loop-r-test.true c.loop-r.invariant c.standing_of-standing.ensures

pub returns : goal.returns
returns c =
    stand_end c.args.self.now c.args.class c.args.m c.supers_first-order.result.now c.loop-r.r-index c.loop-r.standings.items (rw c.self.view_is at c.supers_first-order.ensures) (omega arith) c.loop-r.invariant
