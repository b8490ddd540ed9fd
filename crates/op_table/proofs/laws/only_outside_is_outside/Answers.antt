use Rattle.op_table.proofs.Inside.{only-outside}
use Rattle.op_table.proofs.laws.only_outside_is_outside.Goals as goal

pub returns : goal.returns
returns c = only-outside
