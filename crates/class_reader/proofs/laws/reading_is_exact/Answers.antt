use Rattle.class_reader.proofs.VerdictLaws.{class_exact, fault_exact}
use Rattle.class_reader.proofs.laws.reading_is_exact.Goals as goal

pub returns-clause-class : goal.returns-clause-class
returns-clause-class c = class_exact

pub returns-clause-fault : goal.returns-clause-fault
returns-clause-fault c = fault_exact
