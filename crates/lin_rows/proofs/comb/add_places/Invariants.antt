use Rattle.std.proofs.Common.{◌≡◌, drop, take, length, []}
use Rattle.lin_rows.specs.Combining.{places_added}
use Rattle.lin_rows.proofs.comb.add_places.Given as goal

abbrev pub invariant-loop-i : goal.invariant-loop-i
invariant-loop-i l = record {
  left : places_added (take l.i l.places.items) (drop l.i l.places.items) l.q (drop l.i l.coefficients) ≡ places_added [] l.fn.places.items l.q l.coefficients;
  same : length l.places.items ≡ length l.fn.places.items;
}
