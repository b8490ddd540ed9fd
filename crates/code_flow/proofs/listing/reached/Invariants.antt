use Rattle.code_flow.specs.Scanned.{IsListedTo}
use Rattle.code_flow.proofs.listing.reached.Given as goal

abbrev pub invariant-loop-k : goal.invariant-loop-k
invariant-loop-k l = IsListedTo l.w l.fn.m l.k l.listing.found l.listing.scans.items
