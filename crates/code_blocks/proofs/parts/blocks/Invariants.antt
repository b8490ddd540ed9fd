use Rattle.std.proofs.Common.{◌≤◌, length}
use Rattle.code_blocks.specs.inside.Cutting.{AreBlocksTo, IsRun}
use Rattle.code_blocks.proofs.parts.blocks.Given as goal

abbrev pub invariant-loop-last : goal.invariant-loop-last
invariant-loop-last l = record {
  blocks : AreBlocksTo l.instructions l.first l.blocks;
  run : IsRun l.instructions l.first l.last;
  closed : length l.instructions ≤ l.last → l.last ≤ l.first;
}
