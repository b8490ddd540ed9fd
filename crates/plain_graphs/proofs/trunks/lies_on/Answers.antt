use Rattle.std.proofs.Common.{ℕ, List, ◌<◌, [], ◌∙◌, Contains, length, subst, sym, arith}
use Rattle.std.proofs.lemmas.List.{get_or_default}
use Rattle.plain_graphs.proofs.trunks.lies_on.Goals as goal

pub returns : goal.returns
returns c =
    let p = c.requires.plain in
    let fits : c.args.x < length c.args.p.now.trunks.items = omega (arith, p.count, c.requires.x) in
    let trunk = c.as_slice.ensures ∙ (c.index.ensures ∙ get_or_default c.args.p.now.trunks.items c.args.x c.index.result.now [] fits) in
    let is = p.trunks c.args.x c.requires.x c.args.h in
    (λ t. is.0 (subst (λ (xs : List ℕ). Contains xs c.args.h) trunk (c.has.ensures.0 t)), λ l. c.has.ensures.1 (subst (λ (xs : List ℕ). Contains xs c.args.h) (sym trunk) (is.1 l)))
