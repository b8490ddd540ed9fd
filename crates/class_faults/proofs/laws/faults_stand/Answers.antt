use Rattle.class_faults.proofs.FirstTold.{first_is_there}
use Rattle.class_faults.proofs.laws.faults_stand.Goals as goal

pub returns : goal.returns
returns c = first_is_there
