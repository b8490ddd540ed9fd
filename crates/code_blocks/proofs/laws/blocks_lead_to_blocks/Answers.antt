use Rattle.code_blocks.proofs.Laying.{blocks_lead_to_blocks}
use Rattle.code_blocks.proofs.laws.blocks_lead_to_blocks.Goals as goal

pub returns : goal.returns
returns c = blocks_lead_to_blocks
