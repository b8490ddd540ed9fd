use Rattle.std.proofs.Common.{◌+◌}
use Rattle.small_sums.specs.inside.Chains.{AreLinked, AreHeads}
use Rattle.small_sums.proofs.places.Places.of.Given as goal

abbrev pub invariant-loop-place : goal.invariant-loop-place
invariant-loop-place l = record {
  heads : AreHeads l.place (l.count + 1) l.keys.items l.heads.items;
  links : AreLinked l.place (l.count + 1) l.keys.items l.links.items;
}
