use Rattle.std.proofs.Common.{arith}
use Rattle.graph_order.proofs.Lines.{IsLine-free, free_fits}
use Rattle.graph_order.proofs.line.take_free.Goals as goal

pub index_mut-requires : goal.index_mut-requires
index_mut-requires c =
    let l = c.requires in
    omega (arith, c.args.line.now.done.ok.0, free_fits l.0 l.1 _ _ _ _ _ _ _ c.in_ok-x.ensures.items l.2)

pub returns-clause-line : goal.returns-clause-line
returns-clause-line c = λ calls firsts l. IsLine-free calls firsts _ _ _ _ _ _ _ c.in_ok-x.ensures.items l
