use Rattle.std.proofs.Common.{arith, ◌≡◌, [], get_or, ◌∙◌, subst}
use Rattle.std.proofs.lemmas.List.{get_or_default}
use Rattle.std.proofs.lemmas.Result.{err_from_is_err_and}
use Rattle.lp_lines.specs.inside.Lines.{FailsRest}
use Rattle.lp_lines.specs.inside.Moves.{at}
use Rattle.lp_lines.proofs.Lines.{differ_so}
use Rattle.lp_lines.proofs.table.put_in_all.Goals as goal

pub returns-in_err-put_in_unless-clause-err : goal.returns-in_err-put_in_unless-clause-err
returns-in_err-put_in_unless-clause-err c =
    let xs = c.loop-h.lines.items in
    let h = c.loop-h.h in
    let own : c.index_mut.result.now ≡ get_or c.args.lines.now.items h [] = c.index_mut.ensures.value ∙ get_or_default xs h c.index_mut.result.now [] (omega (arith, c.loop-h.invariant.size)) ∙ c.loop-h.invariant.left h (omega arith) in
    let apart = differ_so h c.args.line c.in_err-put_in_unless.ensures.changes in
    let e = err_from_is_err_and c.from_residual.result c.from_residual.ensures.1 in
    rw (e.1, e.2) (at h (omega (arith, c.loop-h.invariant.size)) apart (subst (λ l. FailsRest c.args.column c.args.pivot.now l c.in_err-put_in_unless.field-0.0) own c.in_err-put_in_unless.ensures.err))
