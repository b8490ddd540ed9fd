use Rattle.object_steps.proofs.CastLaws.{cast_cases_left, cast_cases_thrown, casts_are_cases}
use Rattle.object_steps.proofs.laws.casts_are_cases.Goals as goal

pub returns-clause-cases : goal.returns-clause-cases
returns-clause-cases c = casts_are_cases

pub returns-clause-left : goal.returns-clause-left
returns-clause-left c = cast_cases_left

pub returns-clause-thrown : goal.returns-clause-thrown
returns-clause-thrown c = cast_cases_thrown
