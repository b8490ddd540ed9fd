use Rattle.std.proofs.Common.{refl, subst, sym, below_more, arith}
use Rattle.std.proofs.lemmas.List.{get_or_default}
use Rattle.graph_core.specs.Loops.{IsBelow}
use Rattle.plain_graphs.proofs.trunks.are_below.Goals as goal

pub loop-x-preserved : goal.loop-x-preserved
loop-x-preserved c = below_more _ _ c.loop-x.invariant (c.is_below.ensures.0 c.if-not-is_below.false)

pub returns : goal.returns
returns c =
    (λ t k d l. let e = c.loop-x-test.false in subst (IsBelow c.args.p.now.graph.now c.args.p.now.root c.args.h) (sym (get_or_default c.args.xs.now k d 0 l)) (c.loop-x.invariant k (omega arith)), λ a. refl)
