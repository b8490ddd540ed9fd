use Rattle.std.proofs.Common.{arith}
use Rattle.nested_runs.proofs.Kept.{order_kept, done_over}
use Rattle.nested_runs.proofs.CountingLaws.{counting_falls}
use Rattle.nested_runs.proofs.laws.calls_leave_less.Goals as goal

pub returns : goal.returns
returns c = λ n e cost call. done_over (order_kept counting_falls) (omega arith) call
