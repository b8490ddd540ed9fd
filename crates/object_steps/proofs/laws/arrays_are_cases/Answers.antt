use Rattle.object_steps.proofs.ArrayLaws.{array_cases_left, array_cases_thrown, arrays_are_cases}
use Rattle.object_steps.proofs.laws.arrays_are_cases.Goals as goal

pub returns-clause-cases : goal.returns-clause-cases
returns-clause-cases c = arrays_are_cases

pub returns-clause-left : goal.returns-clause-left
returns-clause-left c = array_cases_left

pub returns-clause-thrown : goal.returns-clause-thrown
returns-clause-thrown c = array_cases_thrown
