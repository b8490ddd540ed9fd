use Rattle.std.proofs.Common.{List, Bool, subst}
use Rattle.plain_graphs.specs.Plain.{AreListed}
use Rattle.plain_graphs.proofs.Listings.{lists_all}
use Rattle.plain_graphs.proofs.listing.all_lists.Goals as goal

pub returns : goal.returns
returns c =
    let falses = c.in_ok-used.ensures.items_if_clones_equal (λ y h. h) in
    lists_all _ _ _ falses (subst (λ (us : List Bool). AreListed us c.in_ok-lists.lists.items) c.deref.ensures.value c.in_ok-lists.ensures)
