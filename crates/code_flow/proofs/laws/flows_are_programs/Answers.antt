use Rattle.code_flow.proofs.ProgramLaws.{flow_is_program}
use Rattle.code_flow.proofs.laws.flows_are_programs.Goals as goal

pub returns : goal.returns
returns c = flow_is_program
