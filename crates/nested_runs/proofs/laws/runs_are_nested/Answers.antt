use Rattle.nested_runs.proofs.CountingLaws.{runs_nested}
use Rattle.nested_runs.proofs.laws.runs_are_nested.Goals as goal

pub returns : goal.returns
returns c = runs_nested
