use Rattle.std.proofs.Common.{ap, ◌∙◌}
use Rattle.std.specs.Option.{ok_or}
use Rattle.world.specs.declared.fault.ResolveFault.TheVariants.{MissingMember}
use Rattle.world.proofs.Specific.{method_some, method_none}
use Rattle.world.proofs.world.World.interface_method.Goals as goal

pub returns-in-Some : goal.returns-in-Some
returns-in-Some c =
    method_some c.args.self.now c.args.name.now c.args.desc.now c.args.among.now c.in_ok-specific.specific.items c.in-Some.d.now c.only_one.result c.in_ok-specific.ensures (rw c.deref.ensures.value at c.in-Some.ensures.value) (rw c.deref-in-Some.ensures.value at c.only_one.ensures)

pub returns : goal.returns
returns c =
    method_none c.args.self.now c.args.name.now c.args.desc.now c.args.among.now c.in_ok-specific.specific.items c.ok_or.result c.in_ok-specific.ensures (rw c.deref.ensures.value at c.in-None.ensures.value) (c.ok_or.ensures.value ∙ ap (λ o. ok_or o MissingMember) c.first_method.ensures)
