use Rattle.std.proofs.lemmas.Result.{err_from_is_err_and}
use Rattle.class_pool.proofs.PoolFaults.{pool_takes, first_read}
use Rattle.class_pool.proofs.pool.Pool.read.Goals as goal

pub returns-in_err-pool-clause-fault : goal.returns-in_err-pool-clause-fault
returns-in_err-pool-clause-fault c =
    let p = err_from_is_err_and c.from_residual.result c.from_residual.ensures.1 in
    rw (p.1, p.2) (λ ne. first_read c.args.cursor c.in_err-pool.field-0.0 c.has_bytes.ensures (c.in_err-pool.ensures ne))

pub returns-clause-found : goal.returns-clause-found
returns-clause-found c = pool_takes c.args.cursor c.in_ok-pool.pool c.read_pool.new.cursor c.has_bytes.ensures c.in_ok-pool.ensures
