use Rattle.std.proofs.Common.{subst}
use Rattle.code_blocks.specs.Laws.{IsLaidOut}
use Rattle.method_body.proofs.Extents.{within}
use Rattle.null_facts.proofs.method.NullMethod.new.Goals as goal

pub invariant_of-result : goal.invariant_of-result
invariant_of-result c =
    let b = c.args.body.now in
    let body = c.well_made.ensures.body in
    let places = within b.code.bytes c.code_is_laid_out.ensures.stands b.instructions body.instructions_are (subst (λ is. IsLaidOut is) body.instructions_are c.well_made.ensures.laid_out) in
    record { counted = c.requires.kinds; each = c.requires.targets; some = body.has_code.some; short = body.has_code.short; within = places }
