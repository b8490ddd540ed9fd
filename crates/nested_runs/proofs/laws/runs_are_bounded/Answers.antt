use Rattle.nested_runs.proofs.CountingLaws.{runs_nested, nested_bounded}
use Rattle.nested_runs.proofs.laws.runs_are_bounded.Goals as goal

pub returns : goal.returns
returns c = λ n actions s runs. nested_bounded n s (runs_nested n actions s runs)
