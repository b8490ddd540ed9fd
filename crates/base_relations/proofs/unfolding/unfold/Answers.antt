use Rattle.std.proofs.lemmas.Result.{err_from_is_err_and}
use Rattle.base_relations.proofs.Assembling.{succeeds, fails_free}
use Rattle.base_relations.proofs.unfolding.unfold.Goals as goal

pub returns-in_err-bases : goal.returns-in_err-bases
returns-in_err-bases c =
    let p = err_from_is_err_and c.from_residual-in_err-bases.result c.from_residual-in_err-bases.ensures.1 in
    rw (p.1, p.2) (fails_free c.args.r.now c.in_ok-plan.plan c.args.target c.in_err-bases.field-0.0 c.in_ok-plan.ensures c.in_err-bases.ensures.answer)

pub returns : goal.returns
returns c = succeeds c.args.r.now c.in_ok-plan.plan c.args.target c.in_ok-bases.bases.items c.in_ok-assembled.field-0 c.in_ok-plan.ensures c.in_ok-bases.ensures.answer c.in_ok-assembled.ensures
