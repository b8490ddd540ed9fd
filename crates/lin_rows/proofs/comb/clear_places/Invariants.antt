use Rattle.std.specs.Prelude.{pos}
use Rattle.std.proofs.Common.{◌≡◌, take, length, replicate}
use Rattle.q128.specs.Fraction.{whole}
use Rattle.lin_rows.proofs.comb.clear_places.Given as goal

abbrev pub invariant-loop-i : goal.invariant-loop-i
invariant-loop-i l = record {
  cleared : take l.i l.places.items ≡ replicate l.i (whole (pos 0));
  same : length l.places.items ≡ length l.fn.places.items;
}
