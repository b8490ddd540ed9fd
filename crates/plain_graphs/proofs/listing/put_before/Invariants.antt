use Rattle.plain_graphs.proofs.Listings.{ArePutTo}
use Rattle.plain_graphs.proofs.listing.put_before.Given as goal

abbrev pub invariant-loop-tail : goal.invariant-loop-tail
invariant-loop-tail l = ArePutTo l.x l.tails l.tail-index l.initial.lists.items l.lists.items
