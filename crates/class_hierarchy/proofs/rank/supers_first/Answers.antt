use Rattle.class_hierarchy.proofs.Ordering.{behind_supers}
use Rattle.class_hierarchy.proofs.rank.supers_first.Goals as goal

pub returns : goal.returns
returns c =
    behind_supers c.args.classes.now c.args.ranks.now c.in_ok-ranked.ranked.items c.in_ok-order.order.items c.requires c.in_ok-ranked.ensures (rw c.deref.ensures.value at c.in_ok-order.ensures)
