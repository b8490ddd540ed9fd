use Rattle.std.proofs.Common.{refl}
use Rattle.world.proofs.Standings.{chain_own}
use Rattle.world.proofs.world.World.own_chain.Goals as goal

pub returns : goal.returns
returns c =
    chain_own c.args.self.now c.args.m c.args.r c.method_in.result c.declares.result c.own.result
    (rw (c.method_in.ensures, c.as_slice.ensures, c.as_slice-2.ensures, c.method_at-method.ensures) refl)
    c.declares.ensures
    (rw (c.own.ensures, c.declares-2.ensures) refl)
