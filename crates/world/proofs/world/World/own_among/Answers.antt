use Rattle.std.proofs.Common.{refl, nat_eq}
use Rattle.world.proofs.Standings.{among_own}
use Rattle.world.proofs.world.World.own_among.Goals as goal

pub returns : goal.returns
returns c =
    among_own c.args.self.now c.args.class c.args.m c.args.r (nat_eq c.args.class c.args.r) (nat_eq c.args.m.class c.args.r) c.own.result refl refl (rw (c.own.ensures, c.declares.ensures) refl)
