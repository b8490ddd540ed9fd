use Rattle.op_table.proofs.CasesRise.{cases-rise}
use Rattle.op_table.proofs.laws.cases_rise.Goals as goal

pub returns : goal.returns
returns c = cases-rise
