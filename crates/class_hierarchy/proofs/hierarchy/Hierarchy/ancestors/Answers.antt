use Rattle.class_hierarchy.proofs.Lines.{ancestors_by}
use Rattle.class_hierarchy.proofs.Climbing.{tables_show}
use Rattle.class_hierarchy.proofs.hierarchy.Hierarchy.ancestors.Goals as goal

pub row_of-requires : goal.row_of-requires
row_of-requires c = rw (c.deref.ensures.value, c.deref-2.ensures.value)
    (λ i there. tables_show c.self.inside.classes c.self.inside.supers.items c.self.inside.links.items c.self.inside.order.items c.self.inside.rows.items c.self.invariant i)

pub returns : goal.returns
returns c =
    ancestors_by c.args.self.now c.args.class c.in_ok-row.row c.in_ok-line.line.items c.in_ok-line.ensures (rw (c.deref-3.ensures.value, c.self.view_is) at c.in_ok-row.ensures)
