use Rattle.std.proofs.Common.{arith, get_or}
use Rattle.world.specs.Standings.{standing_at}
use Rattle.world.proofs.Standings.{interface_stands, near_next, near_end}
use Rattle.world.proofs.world.World.near.Goals as goal

pub loop-interface-init : goal.loop-interface-init
loop-interface-init c = c.own_among-near.ensures

pub loop-interface-preserved : goal.loop-interface-preserved
loop-interface-preserved c =
    let w = c.args.self.now in
    let xs = c.interfaces-links.result.now in
    let i = c.loop-interface.interface-index in
    rw (c.join_among-near.ensures, c.standing_at.ensures)
    (near_next w c.args.class c.args.m c.args.r xs i c.loop-interface.near (standing_at c.args.standings.now (get_or xs i 0)) c.loop-interface-test.true c.loop-interface.invariant
    (interface_stands w c.args.class c.args.m c.args.r xs i c.args.standings.now (rw c.self.view_is at c.interfaces-links.ensures.same) c.loop-interface-test.true c.requires.supers))

pub returns : goal.returns
returns c =
    near_end c.args.self.now c.args.class c.args.m c.args.r c.interfaces-links.result.now c.loop-interface.interface-index c.loop-interface.near c.well_built.ensures (rw c.self.view_is at c.interfaces-links.ensures.same) (omega arith) c.loop-interface.invariant
