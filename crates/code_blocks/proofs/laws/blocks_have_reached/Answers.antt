use Rattle.code_blocks.proofs.Laying.{blocks_have_reached, blocks_are_apart}
use Rattle.code_blocks.proofs.laws.blocks_have_reached.Goals as goal

pub returns-clause-reached : goal.returns-clause-reached
returns-clause-reached c = blocks_have_reached

pub returns-clause-apart : goal.returns-clause-apart
returns-clause-apart c = blocks_are_apart
