use Rattle.lin_rows.specs.Rows.{lins}
use Rattle.small_cert.proofs.LeastSums.{lesser_is_least}
use Rattle.small_cert.proofs.least.least_constant.Goals as goal

pub returns : goal.returns
returns c = lesser_is_least (lins c.args.index.now) c.args.coefficients.now c.in_ok-once.once c.in_ok-twice.twice c.lesser.result c.lesser.ensures c.in_ok-once.ensures c.in_ok-twice.ensures
