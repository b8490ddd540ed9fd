use Rattle.std.proofs.Common.{◌≡◌, drop}
use Rattle.code_flow.specs.Listing.{with_new}
use Rattle.code_flow.proofs.found.Found.add_all.Given as goal

abbrev pub invariant-loop-m : goal.invariant-loop-m
invariant-loop-m l = with_new l.fn.self l.methods ≡ with_new l.self (drop l.m-index l.methods)
