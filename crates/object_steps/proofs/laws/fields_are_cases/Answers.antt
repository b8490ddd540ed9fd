use Rattle.object_steps.proofs.FieldLaws.{field_cases_left, field_cases_thrown, fields_are_cases}
use Rattle.object_steps.proofs.laws.fields_are_cases.Goals as goal

pub returns-clause-cases : goal.returns-clause-cases
returns-clause-cases c = fields_are_cases

pub returns-clause-left : goal.returns-clause-left
returns-clause-left c = field_cases_left

pub returns-clause-thrown : goal.returns-clause-thrown
returns-clause-thrown c = field_cases_thrown
