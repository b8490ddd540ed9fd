use Rattle.std.proofs.Common.{◌≡◌, ℕ, ◌<◌, false, length, take}
use Rattle.std.specs.Prelude.{slice_index_or}
use Rattle.code_blocks.specs.Placing.{is_place}
use Rattle.code_blocks.proofs.marks.Places.of.Given as goal

abbrev pub invariant-loop-p : goal.invariant-loop-p
invariant-loop-p l = record {
  count : length l.places ≡ l.size;
  marked : (x : ℕ) → x < l.size → slice_index_or l.places x false ≡ is_place (take l.p-index l.instructions) x;
}
