use Rattle.std.proofs.Common.{sym, subst}
use Rattle.world.specs.Tables.{HasMethod}
use Rattle.analyser.proofs.Answering.{has_method}
use Rattle.analyser.proofs.answer.answer_on.Goals as goal

pub target_of-requires : goal.target_of-requires
target_of-requires c = subst (λ m. HasMethod c.args.world.now m) (sym c.in-Err-Unsupported.method-is)
    (has_method c.args.world.now c.args.target c.in-Err-Unsupported.field-0 c.in-Err-Unsupported.method c.in-Err-Unsupported.pc c.in-Err-Unsupported.construct
    c.in-Err-Unsupported.field-0-is c.in-Err-Unsupported.ensures.fault)
