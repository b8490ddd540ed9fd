use Rattle.std.proofs.Common.{◌≡◌, drop, take, length, []}
use Rattle.base_relations.specs.Substitution.{places_added}
use Rattle.base_relations.proofs.lins.add_places.Given as goal

abbrev pub invariant-loop-i : goal.invariant-loop-i
invariant-loop-i l = record {
  left : places_added (take l.i l.places.items) (drop l.i l.places.items) l.c (drop l.i l.coefficients) ≡ places_added [] l.fn.places.items l.c l.coefficients;
  same : length l.places.items ≡ length l.fn.places.items;
}
