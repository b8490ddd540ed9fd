use Rattle.nested_runs.proofs.CountingLaws.{calls_pay}
use Rattle.nested_runs.proofs.laws.calls_pay_for_what_they_use.Goals as goal

pub returns : goal.returns
returns c = calls_pay
