use Rattle.std.proofs.Common.{◌≡◌, ◌<◌, ℕ, length}
use Rattle.std.specs.Prelude.{◌-◌, Some, slice_get, slice_index}
use Rattle.op_table.specs.Actions.{action_of}
use Rattle.code_blocks.specs.declared.instruction.Instruction.{Instruction}
use Rattle.kind_effects.specs.Effects.{pops}
use Rattle.loop_cut.proofs.bodies.floors.Given as goal

abbrev pub invariant-loop-k : goal.invariant-loop-k
invariant-loop-k l = record {
  count : length l.floors.items ≡ l.k;
  each : (k : ℕ) (i : Instruction) → k < l.k → slice_get l.instructions k ≡ Some i → slice_index l.floors.items k ≡ slice_index l.heights k - pops l.pool (action_of i.instr);
}
