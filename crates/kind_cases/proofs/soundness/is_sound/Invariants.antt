use Rattle.std.proofs.Common.{◌≡◌, ℕ, ◌<◌, true, slice_index_or}
use Rattle.code_blocks.specs.declared.instruction.Placed.{Placed}
use Rattle.kind_cases.specs.Soundness.{stands}
use Rattle.kind_cases.proofs.soundness.is_sound.Given as goal

abbrev pub invariant-loop-p : goal.invariant-loop-p
invariant-loop-p l = (k : ℕ) (d : Placed) → k < l.p-index → stands l.code (slice_index_or l.instructions k d) ≡ true
