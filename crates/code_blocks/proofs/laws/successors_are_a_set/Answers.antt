use Rattle.code_blocks.proofs.Sets.{successors_are_a_set}
use Rattle.code_blocks.proofs.laws.successors_are_a_set.Goals as goal

pub returns : goal.returns
returns c = successors_are_a_set
