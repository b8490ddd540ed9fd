use Rattle.std.proofs.Common.{◌-◌, length}
use Rattle.code_blocks.proofs.Placings.{IsSoFar}
use Rattle.code_blocks.proofs.placing.placed.Given as goal

abbrev pub invariant-loop : goal.invariant-loop
invariant-loop l = IsSoFar l.code (length l.code - l.counter) l.pc l.instructions
