use Rattle.std.proofs.Common.{◌≡◌, drop, length}
use Rattle.base_relations.specs.Substitution.{places_moved}
use Rattle.base_relations.proofs.lins.move_places.Given as goal

abbrev pub invariant-loop-v : goal.invariant-loop-v
invariant-loop-v l = record {
  moved : places_moved l.made l.places.items l.v (drop l.v l.l.coefficients) ≡ places_moved l.made l.fn.places.items 0 l.l.coefficients;
  same : length l.places.items ≡ length l.fn.places.items;
}
