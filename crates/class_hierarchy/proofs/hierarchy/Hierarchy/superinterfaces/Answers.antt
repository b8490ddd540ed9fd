use Rattle.class_hierarchy.proofs.Lines.{superinterfaces_by}
use Rattle.class_hierarchy.proofs.Climbing.{tables_show}
use Rattle.class_hierarchy.proofs.hierarchy.Hierarchy.superinterfaces.Goals as goal

pub above_of-requires : goal.above_of-requires
above_of-requires c = rw (c.deref.ensures.value, c.deref-2.ensures.value)
    (λ i there. tables_show c.self.inside.classes c.self.inside.supers.items c.self.inside.links.items c.self.inside.order.items c.self.inside.rows.items c.self.invariant i)

pub returns : goal.returns
returns c =
    superinterfaces_by c.args.self.now c.args.class c.in_ok-above.above.items c.in_ok-line.line.items c.in_ok-line.ensures (rw (c.deref-3.ensures.value, c.self.view_is) at c.in_ok-above.ensures)
