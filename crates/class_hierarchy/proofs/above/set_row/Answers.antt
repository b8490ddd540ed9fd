use Rattle.std.proofs.Common.{◌≤◌, List, ℕ, length, subst}
use Rattle.class_hierarchy.proofs.Ordering.{row_set}
use Rattle.class_hierarchy.proofs.above.set_row.Goals as goal

pub returns : goal.returns
returns c =
    row_set c.args.classes.now c.args.links.now c.args.rows.now.items c.args.class c.in_ok-row.row c.requires.well_built c.requires.links c.requires.inside (subst (λ (l : List ℕ). 2 ≤ length l) c.row_in-direct.ensures c.if-direct-lt2.false) (rw c.row_in-direct.ensures at c.in_ok-row.ensures)
