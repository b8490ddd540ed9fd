use Rattle.std.proofs.Common.{◌≡◌, ℕ, ◌<◌, false, length, take}
use Rattle.std.specs.Prelude.{slice_index_or}
use Rattle.code_blocks.specs.Blocks.{begins}
use Rattle.code_blocks.proofs.marks.begins.Given as goal

abbrev pub invariant-loop-i : goal.invariant-loop-i
invariant-loop-i l = record {
  count : length l.places ≡ l.size;
  marked : (x : ℕ) → x < l.size → slice_index_or l.places x false ≡ begins (take l.i-index l.instructions) x;
}
