use Rattle.run_places.proofs.Leading.{outcome_leads}
use Rattle.run_places.proofs.laws.outcomes_lead_to_successors.Goals as goal

pub returns : goal.returns
returns c = outcome_leads
