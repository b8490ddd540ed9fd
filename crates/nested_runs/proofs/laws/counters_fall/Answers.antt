use Rattle.std.proofs.Common.{arith}
use Rattle.nested_runs.proofs.Kept.{nest_since, nest_facts}
use Rattle.nested_runs.proofs.CountingLaws.{counting_fell, counting_stays_below}
use Rattle.nested_runs.proofs.laws.counters_fall.Goals as goal

pub returns-clause-since : goal.returns-clause-since
returns-clause-since c = λ n stack cost nest. nest_since (counting_fell n) (record { fell = omega arith; within = omega arith }) nest

pub returns-clause-each : goal.returns-clause-each
returns-clause-each c = λ n stack cost nest. nest_facts (counting_stays_below n) (omega arith) nest
