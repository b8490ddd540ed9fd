use Rattle.op_table.proofs.Agreeing.{instr-again}
use Rattle.op_table.proofs.laws.instrs_are_determined.Goals as goal

pub returns : goal.returns
returns c = instr-again
