use Rattle.lin_rows.proofs.StepValues.{step_on_wholes, step_at, proved_falls, proved_falls_at_whole}
use Rattle.lin_rows.proofs.laws.steps_are_substitutions.Goals as goal

pub returns : goal.returns
returns c = record { wholes = step_on_wholes; fractions = step_at; falls = proved_falls; falls_at_wholes = proved_falls_at_whole }
