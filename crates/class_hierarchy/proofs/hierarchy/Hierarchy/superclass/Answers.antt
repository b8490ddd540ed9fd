use Rattle.std.proofs.Common.{◌∙◌}
use Rattle.class_hierarchy.proofs.WellBuilt.{super_bound}
use Rattle.class_hierarchy.proofs.hierarchy.Hierarchy.superclass.Goals as goal

pub returns-clause-bound : goal.returns-clause-bound
returns-clause-bound c =
    let told = rw c.deref.ensures.value at c.super_in.ensures in
    let is = rw c.self.view_is at (c.self.invariant.are_supers.1 c.args.class) in
    super_bound c.args.self.now c.args.class c.super_in.result (told ∙ is)
