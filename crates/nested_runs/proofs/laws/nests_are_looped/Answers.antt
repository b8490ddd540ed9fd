use Rattle.std.proofs.Common.{arith}
use Rattle.nested_runs.specs.Looped.{sees_turn}
use Rattle.nested_runs.proofs.Nests.{nest_at}
use Rattle.nested_runs.proofs.Refined.{nest_refined}
use Rattle.nested_runs.proofs.LoopedLaws.{counting_looped, looped_first}
use Rattle.nested_runs.proofs.laws.nests_are_looped.Goals as goal

pub returns : goal.returns
returns c = λ n stack cost nest.
    let carried = nest_refined counting_looped sees_turn (looped_first n) nest in
    (carried.0, (carried.1.0, nest_at (omega arith) carried.1.1))
