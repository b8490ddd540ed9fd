use Rattle.std.proofs.Common.{Err, ap}
use Rattle.std.proofs.lemmas.Result.{err_from_is_err_and}
use Rattle.graph_core.proofs.LoopLaws.{err_same}
use Rattle.graph_loops.proofs.looping.loops.Goals as goal

pub returns-in_err-nest-clause-two_entries : goal.returns-in_err-nest-clause-two_entries
returns-in_err-nest-clause-two_entries c =
    let p = err_from_is_err_and c.from_residual.result c.from_residual.ensures.1 in
    λ a b e. let fault = err_same c.from_residual.result p.0 _ _ p.1 p.2 e in c.in_err-nest.ensures.two_entries a b (ap Err fault)
