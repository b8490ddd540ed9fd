use Rattle.class_pool.proofs.PoolFaults.{decided}
use Rattle.class_pool.proofs.laws.pool_or_fault.Goals as goal

pub returns : goal.returns
returns c = decided
