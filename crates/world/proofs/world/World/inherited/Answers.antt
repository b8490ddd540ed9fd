use Rattle.world.proofs.Selecting.{inherited_first, inherited_default}
use Rattle.world.proofs.world.World.inherited.Goals as goal

pub returns-in-Some : goal.returns-in-Some
returns-in-Some c =
    inherited_first c.args.self.now c.args.name.now c.args.desc.now c.args.class c.args.chain.now c.in-Some.method c.requires c.in-Some.ensures

pub returns-in_ok-among-in-None : goal.returns-in_ok-among-in-None
returns-in_ok-among-in-None c =
    inherited_default c.args.self.now c.args.name.now c.args.desc.now c.args.class c.args.chain.now c.in_ok-among-in-None.among.items c.only_default.result c.requires (rw c.self.view_is at c.in_ok-among-in-None.ensures) c.in-None.ensures (rw c.deref.ensures.value at c.only_default.ensures)
