use Rattle.std.proofs.Common.{sym, ◌∙◌}
use Rattle.world.specs.Standings.{standing_at}
use Rattle.world.proofs.Standings.{super_stands, stands_some, stands_none}
use Rattle.world.proofs.world.World.standing_of.Goals as goal

pub returns-in-Some : goal.returns-in-Some
returns-in-Some c =
    let w = c.args.self.now in
    let s = c.in-Some.s in
    let above = sym c.superclass.ensures.number ∙ c.in-Some.is in
    rw (c.join_among.ensures, c.join_chains.ensures, c.standing_at-up.ensures)
    (stands_some w c.args.class c.args.m c.args.r s c.near-near.result c.own_chain-chain.result (standing_at c.args.standings.now s) c.well_built.ensures c.requires.within above c.near-near.ensures c.own_chain-chain.ensures
    (super_stands w c.args.class c.args.m c.args.r s c.args.standings.now above c.requires.supers))

pub returns-in-None : goal.returns-in-None
returns-in-None c =
    stands_none c.args.self.now c.args.class c.args.m c.args.r c.near-near.result c.own_chain-chain.result c.well_built.ensures c.requires.within (sym c.superclass.ensures.number ∙ c.in-None.is) c.near-near.ensures c.own_chain-chain.ensures
