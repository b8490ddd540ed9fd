use Rattle.class_hierarchy.proofs.Climbing.{tables_show}
use Rattle.class_hierarchy.proofs.hierarchy.Hierarchy.above_all.Goals as goal

pub above_of-requires : goal.above_of-requires
above_of-requires c = rw (c.deref.ensures.value, c.deref-2.ensures.value)
    (λ i there. tables_show c.self.inside.classes c.self.inside.supers.items c.self.inside.links.items c.self.inside.order.items c.self.inside.rows.items c.self.invariant i)

pub returns : goal.returns
returns c = rw c.self.view_is at c.in_ok-above.ensures
