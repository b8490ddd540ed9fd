use Rattle.std.proofs.Common.{ap, ◌∙◌}
use Rattle.class_reader.specs.declared.class.ClassRecord.{ClassRecord}
use Rattle.world.proofs.Targeting.{named_with, values_with}
use Rattle.world.proofs.world.World.add_target.Goals as goal

pub returns-clause-named : goal.returns-clause-named
returns-clause-named c =
    let name = c.as_slice-name.ensures ∙ ap (λ (r : ClassRecord). r.name) (rw c.self.view_is at c.record.ensures.same) in
    rw c.in_ok-insert.ensures.entries (named_with c.args.self.now c.as_slice-name.result c.args.t c.args.targets.now.entries name c.requires)

pub returns-clause-added : goal.returns-clause-added
returns-clause-added c =
    let name = c.as_slice-name.ensures ∙ ap (λ (r : ClassRecord). r.name) (rw c.self.view_is at c.record.ensures.same) in
    rw c.in_ok-insert.ensures.entries (values_with c.args.self.now c.as_slice-name.result c.args.t c.args.targets.now.entries name c.requires)
