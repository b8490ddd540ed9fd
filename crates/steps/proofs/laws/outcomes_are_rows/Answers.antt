use Rattle.steps.proofs.Rows.{outcome_is_row, row_is_outcome}
use Rattle.steps.proofs.laws.outcomes_are_rows.Goals as goal

pub returns-clause-outcomes : goal.returns-clause-outcomes
returns-clause-outcomes c = outcome_is_row

pub returns-clause-rows : goal.returns-clause-rows
returns-clause-rows c = row_is_outcome
