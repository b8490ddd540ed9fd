use Rattle.code_flow.proofs.Founded.{founded}
use Rattle.code_flow.proofs.FirstFaults.{faults_first, too_many}
use Rattle.code_flow.proofs.laws.faults_are_first.Goals as goal

pub returns-clause-founded : goal.returns-clause-founded
returns-clause-founded c = founded

pub returns-clause-first : goal.returns-clause-first
returns-clause-first c = faults_first

pub returns-clause-many : goal.returns-clause-many
returns-clause-many c = too_many
