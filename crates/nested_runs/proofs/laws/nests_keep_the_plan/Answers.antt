use Rattle.std.proofs.Common.{arith}
use Rattle.nested_runs.proofs.Kept.{order_kept}
use Rattle.nested_runs.proofs.Spent.{nest_is_spent, closed_where}
use Rattle.nested_runs.proofs.CountingLaws.{counting_falls, plan_closed}
use Rattle.nested_runs.proofs.laws.nests_keep_the_plan.Goals as goal

pub returns : goal.returns
returns c = λ n stack cost nest. nest_is_spent (closed_where (order_kept counting_falls) plan_closed) nest n (omega arith)
