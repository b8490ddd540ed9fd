use Rattle.class_faults.proofs.NoFault.{no_class}
use Rattle.class_faults.proofs.laws.faulty_bytes_are_no_class.Goals as goal

pub returns : goal.returns
returns c = no_class
