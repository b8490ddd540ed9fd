use Rattle.kind_runs.proofs.Rows.{instruction_has_effect}
use Rattle.kind_runs.proofs.laws.instructions_have_effects.Goals as goal

pub returns : goal.returns
returns c = instruction_has_effect
