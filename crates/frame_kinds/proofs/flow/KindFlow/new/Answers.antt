use Rattle.std.proofs.Common.{subst}
use Rattle.code_blocks.specs.Laws.{IsLaidOut}
use Rattle.method_body.proofs.Extents.{within}
use Rattle.frame_kinds.proofs.flow.KindFlow.new.Goals as goal

pub invariant_of-result-clause-within : goal.invariant_of-result-clause-within
invariant_of-result-clause-within c =
    let b = c.args.body.now in
    let body = c.well_made.ensures.body in
    within b.code.bytes c.code_is_laid_out.ensures.stands b.instructions body.instructions_are (subst (λ is. IsLaidOut is) body.instructions_are c.well_made.ensures.laid_out)
