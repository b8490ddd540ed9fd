use Rattle.world.proofs.Finding.{method_by}
use Rattle.world.proofs.world.World.method_from.Goals as goal

pub returns : goal.returns
returns c =
    method_by c.args.self.now c.args.name.now c.args.desc.now c.args.class c.in_ok-line.line.items c.in_ok-among-in-None.among.items c.interface_method.result (rw c.self.view_is at c.in_ok-line.ensures) (rw c.self.view_is at c.in_ok-among-in-None.ensures) (rw c.deref.ensures.value at c.in-None.ensures) (rw c.deref-in-None.ensures.value at c.interface_method.ensures)
