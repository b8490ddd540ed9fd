use Rattle.bound_normal.proofs.Again.{normal_again}
use Rattle.bound_normal.proofs.laws.normal_forms_stay.Goals as goal

pub returns : goal.returns
returns c = normal_again
