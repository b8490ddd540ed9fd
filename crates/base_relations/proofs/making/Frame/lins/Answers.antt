use Rattle.std.proofs.Common.{arith, subst, sym}
use Rattle.std.proofs.lemmas.Result.{err_from_is_err_and}
use Rattle.base_relations.specs.Making.{lins_made}
use Rattle.base_relations.proofs.Numbering.{lins_some, lins_none, lins_end}
use Rattle.base_relations.proofs.making.Frame.lins.Goals as goal

pub returns-in_err-lin : goal.returns-in_err-lin
returns-in_err-lin c =
    let p = err_from_is_err_and c.from_residual.result c.from_residual.ensures.1 in
    rw (p.1, p.2) (λ ne. let h = c.in_err-lin.ensures ne in (h.0, lins_none c.args.self.now c.args.n c.loop-l.made c.args.ls.now c.loop-l.l-index c.l-item.result _ (omega arith) c.l-item.is h.1 c.loop-l.invariant))

pub loop-l-preserved : goal.loop-l-preserved
loop-l-preserved c =
    rw c.in_ok-push.ensures.ok (lins_some c.args.self.now c.args.n c.loop-l.made c.args.ls.now c.loop-l.l-index c.l-item.result c.in_ok-lin.field-0 _ (omega arith) c.l-item.is c.in_ok-lin.ensures c.loop-l.invariant)

pub returns : goal.returns
returns c = lins_end c.args.self.now c.args.n c.loop-l.made c.args.ls.now c.loop-l.l-index _ (omega arith) c.loop-l.invariant
