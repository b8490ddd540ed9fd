use Rattle.std.proofs.Common.{◌≡◌, ◌<◌, ℕ, length}
use Rattle.std.specs.Prelude.{Some, slice_get, slice_index}
use Rattle.code_blocks.specs.declared.instruction.Block.{Block}
use Rattle.loop_cut.proofs.bodies.numbers.Given as goal

abbrev pub invariant-loop-k : goal.invariant-loop-k
invariant-loop-k l = record {
  count : length l.numbers.items ≡ l.size;
  numbered : (k : ℕ) (b : Block) → k < l.k → slice_get l.blocks k ≡ Some b → slice_index l.numbers.items b.pc ≡ k;
}
