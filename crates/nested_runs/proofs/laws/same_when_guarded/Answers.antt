use Rattle.std.proofs.Common.{arith}
use Rattle.nested_runs.proofs.Kept.{order_kept, nest_guarded, done_guarded, guarded_within}
use Rattle.nested_runs.proofs.Refined.{nest_within, done_within}
use Rattle.nested_runs.proofs.CountingLaws.{counting_falls}
use Rattle.nested_runs.proofs.laws.same_when_guarded.Goals as goal

pub returns-clause-nests : goal.returns-clause-nests
returns-clause-nests c = λ n stack cost.
    (λ nest. nest_guarded (order_kept counting_falls) (omega arith) nest, λ nest. nest_within (guarded_within _ _ _) nest)

pub returns-clause-calls : goal.returns-clause-calls
returns-clause-calls c = λ n e cost.
    (λ call. done_guarded (order_kept counting_falls) (omega arith) call, λ call. done_within (guarded_within _ _ _) call)
