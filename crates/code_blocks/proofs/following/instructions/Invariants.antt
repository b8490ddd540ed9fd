use Rattle.std.proofs.Common.{◌≡◌, map, take}
use Rattle.code_blocks.specs.Successors.{instruction_of}
use Rattle.code_blocks.proofs.following.instructions.Given as goal

abbrev pub invariant-loop-p : goal.invariant-loop-p
invariant-loop-p l = l.found.items ≡ map (instruction_of l.code) (take l.p-index l.p-items)
