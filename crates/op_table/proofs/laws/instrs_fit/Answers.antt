use Rattle.op_table.proofs.Agreeing.{instr-fits}
use Rattle.op_table.proofs.laws.instrs_fit.Goals as goal

pub returns : goal.returns
returns c = instr-fits
