use Rattle.std.proofs.Common.{◌∙◌}
use Rattle.class_hierarchy.proofs.WellBuilt.{interfaces_bound}
use Rattle.class_hierarchy.proofs.hierarchy.Hierarchy.interfaces.Goals as goal

pub returns-clause-below : goal.returns-clause-below
returns-clause-below c =
    let told = rw c.deref.ensures.value at c.row_in.ensures in
    let is = rw c.self.view_is at (c.self.invariant.are_links.1 c.args.class) in
    interfaces_bound c.args.self.now c.args.class c.row_in.result.now (told ∙ is)
