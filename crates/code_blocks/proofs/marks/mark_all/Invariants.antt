use Rattle.std.proofs.Common.{◌≡◌, ℕ, ◌<◌, false, length, take}
use Rattle.std.specs.Prelude.{◌||◌, nat_eq, slice_index_or}
use Rattle.std.specs.List.{list_any}
use Rattle.code_blocks.proofs.marks.mark_all.Given as goal

abbrev pub invariant-loop-x : goal.invariant-loop-x
invariant-loop-x l = record {
  count : length l.places ≡ length l.fn.places;
  marked : (y : ℕ) → y < length l.fn.places → slice_index_or l.places y false ≡ (list_any (nat_eq y) (take l.x-index l.more) || slice_index_or l.fn.places y false);
}
