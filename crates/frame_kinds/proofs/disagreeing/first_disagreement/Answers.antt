use Rattle.std.proofs.Common.{length}
use Rattle.frame_kinds.proofs.Places.{instruction_there}
use Rattle.frame_kinds.proofs.disagreeing.first_disagreement.Goals as goal

pub at-requires : goal.at-requires
at-requires c =
    let list = c.instructions-instruction-items in
    instruction_there (length c.args.facts.now) c.args.body.now.instructions list.result.now c.loop-instruction.instruction-index _ c.instruction-item.result c.requires list.ensures c.instruction-item.is c.loop-instruction-test.true
