use Rattle.std.specs.Prelude.{count_by, not}
use Rattle.plain_graphs.specs.Plain.{AreListedTo}
use Rattle.plain_graphs.proofs.listing.+listed.Given as goal

abbrev pub decreases-listed : goal.decreases-listed
decreases-listed l = count_by not l.used.now

abbrev pub invariant-loop-x : goal.invariant-loop-x
invariant-loop-x l = AreListedTo l.used l.x l.lists.items
